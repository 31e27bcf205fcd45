-- The known figures follow from the theorem on the inside recursion, which computes at once where the sum over all linkages
-- would not.
use Rattle.std.proofs.Common.{◌≡◌, ℕ, ◌<◌, sym, refl, ◌∙◌, lit<}
use Rattle.tally.specs.FewestWays.{fewest_ways, fewest_ways_tally}
use Rattle.tally.specs.Ways.{ways, ways_tally}
use Rattle.linkage.specs.Figures.{Figures, KnownFigures, just_fell, just_well, one_one_pen_fell, one_pen_fell, one_red_pen_hit_one_lamp, p_q, pen_fell, pen_struck}
use Rattle.linkage.specs.Inside.{whole}
use Rattle.linkage.specs.Sentences.{Sentence, size}
use Rattle.linkage.specs.Theorems.{InsideIsTotal}

module _ (in_ways : InsideIsTotal ways_tally) (in-fewest-ways : InsideIsTotal fewest_ways_tally) where
  figured : (s : Sentence) (l n c : ℕ) → 0 < size s → whole ways_tally s ≡ ways l → whole fewest_ways_tally s ≡ fewest_ways n c → Figures s l n c
  figured s l n c h e f = (sym (in_ways s h).0 ∙ e, sym (in-fewest-ways s h).0 ∙ f)

  pub figures_stand : KnownFigures
  figures_stand = (
    figured one_pen_fell 1 0 1 (lit< tt) refl refl,
    figured pen_struck 0 2 1 (lit< tt) refl refl,
    figured one_red_pen_hit_one_lamp 1 0 1 (lit< tt) refl refl,
    figured one_one_pen_fell 0 1 2 (lit< tt) refl refl,
    figured pen_fell 0 1 1 (lit< tt) refl refl,
    figured just_fell 0 0 1 (lit< tt) refl refl,
    figured just_well 1 0 2 (lit< tt) refl refl,
    figured p_q 0 1 1 (lit< tt) refl refl,
    refl,
    refl,
  )

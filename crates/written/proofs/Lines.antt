-- The parts of a line that is written behind a front: none of its cells but those of the names holds a mark, its block reads
-- as the line's disjuncts, and its rows read as the line's words.
use Rattle.std.proofs.Common.{◌≡◌, ℕ, zero, suc, ◌+◌, ◌^◌, ◌<◌, ◌≤◌, true, List, [], ◌∷◌, ◌++◌, map, length, get_or, refl, ap, ◌∙◌, subst, ap₂, append_assoc, append-nil, arith, length-append}
use lib.ListN.{length-map}
use Rattle.std.specs.List.{AllByRecursion}
use Rattle.std.proofs.ByRecursion.{All-append, All-weaker, All-map, All-from_get_or}
use Rattle.lexicon.specs.declared.side.Side.{Side}
use Rattle.lexicon.specs.declared.side.Side.TheVariants.{Left, Right}
use Rattle.lexicon.specs.Lexicon.{Disjunct, side_of, free}
use Rattle.formula.specs.Tokens.{Name}
use Rattle.written.specs.Model.{renamed, number_of, among}
use Rattle.written.specs.Store.{cell, MARK, name_at, names_from, third, block_at, entry_of, heads, connectors, block_cells, word_cells, word_rows, all_name_cells, with_names, numbered, with_block, WholeName, WholeBlock, WholeRow}
use Rattle.written.proofs.Renamed.{Asks, asks_weaker, renamed_back}
use Rattle.written.proofs.Fronts.{name_kept, whole_name_kept}
use Rattle.written.proofs.Blocks.{Stands, stands_within, stands_cells, stands_front, stands_after, Fits, length_heads, block_read, block_whole}
use Rattle.written.proofs.Names.{Plain, Sound, sound_whole, names_append, names_none, names_placed, placed, named, NamedOk, plain_below, among_placed}

-- What is known of a line place by place holds of its lists.
pub fits_from : (ds : List (Disjunct Name)) → ((k : ℕ) (s : Side) → length (side_of (get_or ds k free) s) ≤ 8) → AllByRecursion Fits ds
fits_from [] h = tt
fits_from (d ∷ ds) h = ((h 0 Left, h 0 Right), fits_from ds (λ k. h (suc k)))

pub named_from : (ds : List (Disjunct Name)) → ((k i : ℕ) (s : Side) → NamedOk (get_or (side_of (get_or ds k free) s) i [])) →
    AllByRecursion (Asks NamedOk) ds
named_from [] h = tt
named_from (d ∷ ds) h = (
  (All-from_get_or NamedOk d.left [] (λ i _. h 0 i Left), All-from_get_or NamedOk d.right [] (λ i _. h 0 i Right)),
  named_from ds (λ k. h (suc k)),
)

pub plain_words : (words : List (List ℕ)) → ((w j : ℕ) → get_or (get_or words w []) j 0 < 256) → Plain (word_cells words)
unfolding word_cells
plain_words [] h = tt
plain_words (w ∷ ws) h = All-append (λ x. x < MARK) w (word_cells ws) (plain_below w (h 0)) (plain_words ws (λ k. h (suc k)))

-- Cells that fit in the table.
abbrev pub Small : List ℕ → Type 0
Small xs = AllByRecursion (λ x. x < 2 ^ 16) xs

pub small_plain : (xs : List ℕ) → Plain xs → Small xs
small_plain xs h = All-weaker (λ x. x < MARK) (λ x. x < 2 ^ 16) (λ x l. omega arith) xs h

pub small_names : (ns : List Name) → AllByRecursion NamedOk ns → Small (all_name_cells ns)
unfolding all_name_cells
small_names [] h = tt
small_names (n ∷ ns) ((l, b), h) = (
  omega arith,
  (omega arith, All-append (λ x. x < 2 ^ 16) n (all_name_cells ns) (small_plain n (plain_below n b)) (small_names ns h)),
)

pub small_cell : (xs : List ℕ) → Small xs → (i : ℕ) → cell xs i < 2 ^ 16
small_cell [] h i = omega arith
small_cell (x ∷ xs) (l, h) zero = l
small_cell (x ∷ xs) (l, h) (suc i) = small_cell xs h i

-- The names of a front with new names, and of a front with cells that hold none.
pub names_more : (F : List ℕ) (ns : List Name) → Sound F → AllByRecursion NamedOk ns →
    names_from 0 (with_names F ns) ≡ names_from 0 F ++ placed (length F) ns
names_more F ns s ok =
    let e : 0 + length F ≡ length F = omega arith in
    names_append 0 F (all_name_cells ns) s
    ∙ ap (◌++◌ (names_from 0 F)) (names_placed (0 + length F) ns ok ∙ ap (λ q. placed q ns) e)

pub names_behind : (F xs : List ℕ) → Sound F → Plain xs → names_from 0 (F ++ xs) ≡ names_from 0 F
names_behind F xs s p =
    names_append 0 F xs s ∙ (ap (◌++◌ (names_from 0 F)) (names_none (0 + length F) xs p) ∙ append-nil (names_from 0 F))

-- The cells of a block.
plain_heads : (at : ℕ) (ds : List (Disjunct ℕ)) → AllByRecursion Fits ds → at + length (connectors ds) < MARK → Plain (heads at ds)
unfolding heads connectors
plain_heads at [] f h = tt
plain_heads at (d ∷ ds) ((l, r), f) h =
    let n : length (d.left ++ (d.right ++ connectors ds)) ≡ length d.left + (length d.right + length (connectors ds)) =
    simp length-append
    in (omega arith, (omega arith, (omega arith, plain_heads (at + (length d.left + length d.right)) ds f (omega arith))))

plain_connectors : (ds : List (Disjunct ℕ)) → AllByRecursion (Asks (λ p. p < MARK)) ds → Plain (connectors ds)
unfolding connectors
plain_connectors [] h = tt
plain_connectors (d ∷ ds) ((l, r), h) =
    All-append (λ p. p < MARK) d.left (d.right ++ connectors ds) l
    (All-append (λ p. p < MARK) d.right (connectors ds) r (plain_connectors ds h))

plain_block : (b : ℕ) (ds : List (Disjunct ℕ)) → length ds ≤ 64 → AllByRecursion Fits ds → AllByRecursion (Asks (λ p. p < MARK)) ds →
    b + length (block_cells b ds) < MARK → Plain (block_cells b ds)
plain_block b ds few fits low room =
    let at = third b (length ds) in
    let n = length-append (heads at ds) (connectors ds) in
    let k = length_heads at ds in
    let h = plain_heads at ds fits (omega arith) in
    let rest = All-append (λ x. x < MARK) (heads at ds) (connectors ds) h (plain_connectors ds low) in
    (omega arith, (omega arith, (omega arith, (omega arith, rest))))

-- Disjuncts with their connectors renamed.
asks_renamed : {A B : Type 0} (f : A → B) (P : B → Type 0) (ds : List (Disjunct A)) → AllByRecursion (Asks (λ x. P (f x))) ds →
    AllByRecursion (Asks P) (map (renamed f) ds)
asks_renamed f P ds h =
    All-map (Asks P) (renamed f) ds
    (All-weaker (Asks (λ x. P (f x))) (λ d. Asks P (renamed f d))
    (λ d p. (All-map P f d.left p.0, All-map P f d.right p.1)) ds h)

fits_renamed : {A B : Type 0} (f : A → B) (ds : List (Disjunct A)) → AllByRecursion Fits ds → AllByRecursion Fits (map (renamed f) ds)
fits_renamed f ds h =
    All-map Fits (renamed f) ds
    (All-weaker Fits (λ d. Fits (renamed f d))
    (λ d p. let l = length-map d.left f in let r = length-map d.right f in let (x, y) = p in (omega arith, omega arith)) ds h)

-- A name whose number in a front is the place of that very name.
abbrev pub Told : List ℕ → Name → Type 0
Told F n = WholeName F (number_of (names_from 0 F) n) × (name_at F (number_of (names_from 0 F) n) ≡ n)

pub told : (F : List ℕ) → Sound F → (n : Name) → among n (named 0 F) ≡ true → Told F n
told F s n h =
    let p = among_placed 0 F n h in
    let k = p.number_is in
    let e : p.at_mark ≡ number_of (names_from 0 F) n = omega arith in
    (subst (WholeName F) e (sound_whole F s p.at_mark p.marked), subst (λ i. name_at F i ≡ n) e p.called)

-- A block behind a front in which its names are told.
module _ (F : List ℕ) (ds : List (Disjunct Name)) (known : AllByRecursion (Asks (Told F)) ds) where
  pub plain_numbered : length ds ≤ 64 → AllByRecursion Fits ds → length (with_block F ds) < MARK →
      Plain (block_cells (length F) (numbered F ds))
  plain_numbered few fits room =
      let b = block_cells (length F) (numbered F ds) in
      let n = length-append F b in
      let k = length-map ds (renamed (number_of (names_from 0 F))) in
      plain_block (length F) (numbered F ds) (omega arith) (fits_renamed (number_of (names_from 0 F)) ds fits)
      (asks_renamed (number_of (names_from 0 F)) (λ p. p < MARK) ds
      (asks_weaker (Told F) (λ m. number_of (names_from 0 F) m < MARK) (λ m t. let w = t.0.0 in omega arith) ds known))
      (omega arith)

  module _ (G : List ℕ) where
    stands_block : Stands (with_block F ds ++ G) (length F) (block_cells (length F) (numbered F ds))
    stands_block =
        record { before = F; rest = G; is = append_assoc F (block_cells (length F) (numbered F ds)) G; place = refl }

    told_after : (n : Name) → Told F n →
        WholeName (with_block F ds ++ G) (number_of (names_from 0 F) n)
        × (name_at (with_block F ds ++ G) (number_of (names_from 0 F) n) ≡ n)
    told_after n (w, e) =
        let b = block_cells (length F) (numbered F ds) in
        let p = number_of (names_from 0 F) n in
        let v = whole_name_kept F b p w in
        (whole_name_kept (F ++ b) G p v, name_kept (F ++ b) G p v ∙ (name_kept F b p w ∙ e))

    pub block_after : map (renamed (name_at (with_block F ds ++ G))) (block_at (with_block F ds ++ G) (length F)) ≡ ds
    block_after =
        let front = with_block F ds ++ G in
        let f = number_of (names_from 0 F) in
        ap (map (renamed (name_at front))) (block_read front (length F) (numbered F ds) stands_block)
        ∙ renamed_back f (name_at front) ds
        (asks_weaker (Told F) (λ n. name_at front (f n) ≡ n) (λ n t. (told_after n t).1) ds known)

    pub whole_block_after : length ds ≤ 64 → AllByRecursion Fits ds → WholeBlock (with_block F ds ++ G) (length F)
    whole_block_after few fits =
        let front = with_block F ds ++ G in
        let f = number_of (names_from 0 F) in
        let k = length-map ds (renamed f) in
        block_whole front (length F) (numbered F ds) stands_block (omega arith) (fits_renamed f ds fits)
        (asks_renamed f (WholeName front) ds
        (asks_weaker (Told F) (λ n. WholeName front (f n)) (λ n t. (told_after n t).0) ds known))

-- The rows of words whose bytes stand in a front.
module _ (front : List ℕ) (b : ℕ) where
  pub words_read : (ds : List (Disjunct Name)) → map (renamed (name_at front)) (block_at front b) ≡ ds →
      (words : List (List ℕ)) (at : ℕ) → Stands front at (word_cells words) →
      map (entry_of front) (word_rows at b words) ≡ map (λ w. record { word = w; disjuncts = ds }) words
  unfolding word_cells word_rows
  words_read ds e [] at s = refl
  words_read ds e (w ∷ ws) at s =
      let r = stands_cells front at w (stands_front front at w (word_cells ws) s) in
      ap₂ ◌∷◌ (λ i. record { word = r i; disjuncts = e i })
      (words_read ds e ws (at + length w) (stands_after front at w (word_cells ws) s (at + length w) refl))

  pub words_whole : WholeBlock front b → (words : List (List ℕ)) (at : ℕ) → Stands front at (word_cells words) →
      AllByRecursion (WholeRow front) (word_rows at b words)
  unfolding word_cells word_rows
  words_whole h [] at s = tt
  words_whole h (w ∷ ws) at s = (
    (stands_within front at w (stands_front front at w (word_cells ws) s), h),
    words_whole h ws (at + length w) (stands_after front at w (word_cells ws) s (at + length w) refl),
  )

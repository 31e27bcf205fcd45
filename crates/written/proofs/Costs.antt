-- What words, names and connectors take, one by one and in all.
use Rattle.std.proofs.Common.{◌≡◌, ℕ, suc, ◌+◌, ◌*◌, ◌≤◌, true, ◌&&◌, eqb, ltb, leb, List, [], ◌∷◌, ◌++◌, length, get_or, map, refl, sym, ap, ◌∙◌, mul-suc, arith, length-append, leb-true}
use lib.ListN.{length-map}
use Rattle.std.specs.List.{list_any, sum_by}
use Rattle.std.proofs.lemmas.List.Recursion.{is_sum_by}
use Rattle.formula.specs.declared.way.Disjunct.{Disjunct as Kept}
use Rattle.formula.specs.Bounds.{held}
use Rattle.formula.specs.Shown.{Spelled, disjunct_of, spellings}
use Rattle.std.proofs.lemmas.Bool.{and_parts}
use Rattle.lexicon.specs.Lexicon.{Disjunct, free, side_of}
use Rattle.lexicon.specs.declared.side.Side.{Side}
use Rattle.lexicon.specs.declared.side.Side.TheVariants.{Left, Right}
use Rattle.formula.specs.Tokens.{Name}
use Rattle.written.specs.Costs.{each_takes}
use Rattle.written.specs.Lines.{every, good_word}
use Rattle.written.specs.Model.{mentioned}
use Rattle.written.specs.Store.{word_cells}
use Rattle.written.proofs.Noted.{mentioned_push}

pub takes_split : (n : ℕ) (ws : List (List ℕ)) → each_takes n ws ≡ n * length ws + length (word_cells ws)
unfolding each_takes word_cells
takes_split n [] = let z : n * 0 ≡ 0 = native.Mathlib.Nat.mul-zero n in omega arith
takes_split n (w ∷ ws) =
    let e = takes_split n ws
    in let f = length-append w (word_cells ws)
    in let g : n * suc (length ws) ≡ n * length ws + n = mul-suc n (length ws)
    in omega arith

-- Good words are short.
pub takes_few : (ws : List (List ℕ)) → every good_word ws ≡ true → length (word_cells ws) ≤ 24 * length ws
unfolding every word_cells
takes_few [] h = omega arith
takes_few (w ∷ ws) h =
    let p = and_parts (good_word w) (every good_word ws) h
    in let q = and_parts (ltb 0 (length w)) (leb (length w) 24 && mathlib.Core.Bool.not (list_any (λ b. eqb b 10) w)) p.0
    in let r = and_parts (leb (length w) 24) (mathlib.Core.Bool.not (list_any (λ b. eqb b 10) w)) q.1
    in let s = leb-true (length w) 24 r.0
    in let e = takes_few ws p.1
    in let f = length-append w (word_cells ws)
    in omega arith

-- Connectors are counted disjunct by disjunct, and the cells of names name by name.
pub mentioned_count : (ds : List (Disjunct Name)) (d : Disjunct Name) →
    length (mentioned (ds ++ (d ∷ []))) ≡ length (mentioned ds) + (length d.left + length d.right)
mentioned_count ds d =
    ap length (mentioned_push ds d) ∙ length-append (mentioned ds) (d.left ++ d.right)
    ∙ ap (λ n. length (mentioned ds) + n) (length-append d.left d.right)

pub mentioned_sum : (ts : List Kept) → sum_by (λ (d : Kept). length (held d.left) + length (held d.right)) ts ≡ length (mentioned (map disjunct_of ts))
unfolding mentioned
mentioned_sum ts = sym (is_sum_by (λ ds. length (mentioned (map disjunct_of ds))) (λ (d : Kept). length (held d.left) + length (held d.right)) refl step ts)
  where
    step : (d : Kept) (ds : List Kept) → length (mentioned (map disjunct_of (d ∷ ds))) ≡ length (held d.left) + length (held d.right) + length (mentioned (map disjunct_of ds))
    step d ds =
        let l = length-map (held d.left) held in
        let r = length-map (held d.right) held in
        simp length-append (omega arith)

pub takes_sum : (n : ℕ) (ns : List Spelled) → sum_by (λ (m : Spelled). n + length (held m)) ns ≡ each_takes n (spellings ns)
unfolding each_takes
takes_sum n ns = sym (is_sum_by (λ ms. each_takes n (spellings ms)) (λ (m : Spelled). n + length (held m)) refl (λ _ _. refl) ns)

-- Short lists mention few names, and short names take few cells.
pub mentioned_few : (ds : List (Disjunct Name)) → ((k : ℕ) (s : Side) → length (side_of (get_or ds k free) s) ≤ 8) → length (mentioned ds) ≤ 16 * length ds
unfolding mentioned
mentioned_few [] h = omega arith
mentioned_few (d ∷ ds) h =
    let r = mentioned_few ds (λ k. h (suc k)) in
    let a : length d.left ≤ 8 = h 0 Left in
    let b : length d.right ≤ 8 = h 0 Right in
    let n : length (d.left ++ (d.right ++ mentioned ds)) ≡ length d.left + (length d.right + length (mentioned ds)) = simp length-append in
    omega arith

pub takes_short : (ns : List Name) → ((i : ℕ) → length (get_or ns i []) ≤ 8) → each_takes 2 ns ≤ 10 * length ns
unfolding each_takes
takes_short [] h = omega arith
takes_short (n ∷ ns) h = let r = takes_short ns (λ i. h (suc i)) in let a : length n ≤ 8 = h 0 in omega arith

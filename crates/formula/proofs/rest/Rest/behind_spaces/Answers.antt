use Rattle.std.proofs.Common.{rules, ◌≡◌, ◌+◌, ◌<◌, length, get_or, drop, sym, ap, ◌∙◌, subst, arith, length-drop}
use Rattle.std.specs.List.{prefix_len}
use Rattle.formula.specs.Cuts.{cut_after}
use Rattle.formula.proofs.Places.{is_space, spaces, no_space}
use Rattle.formula.proofs.rest.Rest.behind_spaces.Goals as goal

pub returns : goal.returns
returns c =
    let r = c.args.self in
    let n : c.run.result ≡ prefix_len is_space r.bytes.now = c.run.ensures.value is_space (λ b r h e. search rules) in
    let s = c.skip.result in
    let bytes : s.bytes.now ≡ drop (prefix_len is_space r.bytes.now) r.bytes.now = c.skip.ensures.bytes ∙ ap (λ k. drop k r.bytes.now) n in
    let place : s.place ≡ r.place + prefix_len is_space r.bytes.now = c.skip.ensures.place ∙ ap (λ k. r.place + k) n in
    let len = ap length c.skip.ensures.bytes ∙ length-drop c.run.result r.bytes.now in
    record {
      cuts = spaces r.place r.bytes.now ∙ ap (λ q. cut_after 0 q (drop (prefix_len is_space r.bytes.now) r.bytes.now)) (sym place)
          ∙ ap (cut_after 0 s.place) (sym bytes);
      within = omega (arith, len);
      stops = subst (λ xs. 0 < length xs → get_or xs 0 0 ≡ 32 → ⊥) (sym bytes) (no_space r.bytes.now);
      end = omega (arith, len, c.skip.ensures.place, c.run.ensures.within);
    }

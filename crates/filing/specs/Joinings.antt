-- When labels hold what links join: equal labels at joined positions, and as many parts as there are.
use Rattle.std.specs.Prelude.{◌≡◌, ℕ, ◌<◌, ◌↔◌, List, length, slice_index}
use Rattle.linkage.specs.Parts.{Joined, heads}
use Rattle.filing.specs.declared.joins.Joins.{Joins}

pub record Holds (es : List (ℕ × ℕ)) (j : Joins) : Type 0 where
  pub labels : (u v : ℕ) → u < length j.labels.items → v < length j.labels.items →
      (slice_index j.labels.items u ≡ slice_index j.labels.items v) ↔ Joined es u v
  pub parts : j.parts ≡ length (heads es (length j.labels.items))

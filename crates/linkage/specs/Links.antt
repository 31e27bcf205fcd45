-- The order of links: by their left position, then by their right one.
use Rattle.std.specs.Prelude.{◌≡◌, ℕ, Bool, true, false, ◌&&◌, ◌||◌, ◌==◌, nat_lt, refl}
use Rattle.linkage.specs.declared.link.Link.{Link}

-- A link as the definitions of linkages have it.
abbrev pub ends : Link → ℕ × ℕ
ends l = (l.left, l.right)

abbrev pub earlier : (e f : ℕ × ℕ) → Bool
earlier e f = nat_lt e.0 f.0 || (e.0 == f.0 && nat_lt e.1 f.1)

example_earlier : (earlier (1, 5) (2, 3) ≡ true) × (earlier (1, 3) (1, 5) ≡ true) × (earlier (1, 3) (1, 3) ≡ false)
example_earlier = (refl, refl, refl)

-- A page to which cells are added, and loops that add them.
use Rattle.std.proofs.Common.{◌≡◌, ℕ, ◌+◌, ◌*◌, ◌<◌, ◌≤◌, Bool, true, false, cond, List, [], ◌∷◌, ◌++◌, map, length, get_or, take, drop, Some, unwrap_or, sym, refl, ap, ◌∙◌, ap₂, subst, append_assoc, append-nil, arith, length-append, length-take-le}
use lib.ListN.{length-map}
use Rattle.std.proofs.lemmas.List.{get_or-map, take-take, take-append-le, drop_more, drop_all}
use Rattle.lexicon.specs.Lexicon.{Disjunct}
use Rattle.formula.specs.declared.way.Disjunct.{Disjunct as Tabled}
use Rattle.formula.specs.Bounds.{held}
use Rattle.formula.specs.Shown.{Spelled, disjunct_of, spellings}
use Rattle.formula.specs.Tokens.{Name}
use Rattle.written.specs.declared.page.Page.{Page}
use Rattle.written.specs.Matching.{same}
use Rattle.written.specs.Model.{Named, lookup, number_of, mentioned, renamed}
use Rattle.written.specs.Pages.{Appended, Extended, extended, limit, page_store, taken}
use Rattle.written.specs.Store.{Row, Store, all_name_cells, connectors, heads, name_cells, names_from, numbered, block_cells, third}
use Rattle.written.proofs.Blocks.{length_heads}
use Rattle.written.proofs.Lined.{with_cells}

-- What is added by two writes after each other.
pub extended_more : (p q r : Page) (xs ys : List ℕ) (rs ss : List Row) → Extended p q xs rs → Extended q r ys ss →
    Extended p r (xs ++ ys) (rs ++ ss)
extended_more p q r xs ys rs ss a b =
    let n = length-append xs ys in
    let m = length-append rs ss in
    let s = page_store p in
    let front = append_assoc s.front xs ys in
    let rows = append_assoc s.rows rs ss in
    record {
      store = b.store ∙ (ap (λ t. extended t ys ss) a.store ∙ (λ i. record { front = front i; rows = rows i }));
      len = b.len ∙ a.len;
      used = omega arith;
      words = omega arith;
    }

pub appended_more : (p q r : Page) (xs ys : List ℕ) → Appended p q xs → Appended q r ys → Appended p r (xs ++ ys)
appended_more p q r xs ys = extended_more p q r xs ys [] []

pub appended_as : (p q : Page) (xs ys : List ℕ) → xs ≡ ys → Appended p q xs → Appended p q ys
appended_as p q xs ys e a = subst (Appended p q) e a

-- The first cells stay while others are written behind them.
pub appended_kept : (p q : Page) (xs : List ℕ) (n : ℕ) → Appended p q xs → n ≤ p.used → p.used ≤ length p.table.now →
    take n q.table.now ≡ take n p.table.now
unfolding page_store
appended_kept p q xs n a h l =
    let u = a.used in
    let k : n ≤ q.used = omega arith in
    let m = length-take-le p.used p.table.now l in
    let i : n ≤ length (take p.used p.table.now) = omega arith in
    sym (take-take n q.used q.table.now k)
    ∙ (ap (λ (s : Store). take n s.front) a.store
    ∙ (take-append-le n (take p.used p.table.now) xs i ∙ take-take n p.used p.table.now h))

-- A page that has cells more, as a store.
pub only_cells : (p q : Page) (xs : List ℕ) → Appended p q xs → page_store q ≡ with_cells (page_store p) xs
only_cells p q xs a = a.store ∙ ap (λ rs. record { front = (page_store p).front ++ xs; rows = rs }) (append-nil (page_store p).rows)

pub front_is : (p : Page) → take p.used p.table.now ≡ (page_store p).front
unfolding page_store
front_is p = refl

-- Some of the cells are added and others are left.
pub record Adding (p q : Page) (left all : List ℕ) : Type 0 where
  pub done : List ℕ
  pub adds : Appended p q done
  pub whole : done ++ left ≡ all

module _ (p q : Page) (all : List ℕ) where
  module _ (left xs rest : List ℕ) (a : Adding p q left all) (e : left ≡ xs ++ rest) where
    pub adding_step : (r : Page) → Appended q r xs → Adding p r rest all
    adding_step r b =
        record {
          done = a.done ++ xs;
          adds = appended_more p q r a.done xs a.adds b;
          whole = append_assoc a.done xs rest ∙ (ap (◌++◌ a.done) (sym e) ∙ a.whole);
        }

    -- So many are left to be written.
    pub adding_length : length a.done + (length xs + length rest) ≡ length all
    adding_length =
        ap (λ n. length a.done + n) (sym (length-append xs rest) ∙ ap length (sym e))
        ∙ (sym (length-append a.done left) ∙ ap length a.whole)

    pub adding_room : taken p.used p.words + length all ≤ limit p.table.now →
        taken q.used q.words + length xs ≤ limit q.table.now
    adding_room h =
        let n = adding_length in
        let b = a.adds in
        omega arith

  pub adding_end : (left : List ℕ) → Adding p q left all → left ≡ [] → Appended p q all
  adding_end left a e =
      let f : a.done ≡ all = sym (append-nil a.done) ∙ (ap (◌++◌ a.done) (sym e) ∙ a.whole) in
      rw f at a.adds

-- The number of a name is 0 where it is not found.
pub value_number : (ms : List Named) (n : Name) → unwrap_or (lookup ms n) 0 ≡ number_of ms n
unfolding lookup number_of
value_number [] n = refl
value_number (m ∷ ms) n = go (same m.name n) (value_number ms n)
  where
    go : (t : Bool) → unwrap_or (lookup ms n) 0 ≡ number_of ms n →
        unwrap_or (cond t (Some m.number) (lookup ms n)) 0 ≡ cond t m.number (number_of ms n)
    go true e = refl
    go false e = e

-- What is made of each of some things from a place on: one more, and none.
module _ {X Y : Type 0} (f : X → Y) (xs : List X) (i : ℕ) where
  next_made : (d : X) → i < length xs → drop i (map f xs) ≡ f (get_or xs i d) ∷ drop (i + 1) (map f xs)
  next_made d h =
      let m = length-map xs f in
      drop_more (map f xs) i (f d) (omega arith) ∙ ap (λ y. y ∷ drop (i + 1) (map f xs)) (get_or-map f xs i d (f d) h)

  none_made : length xs ≤ i → drop i (map f xs) ≡ []
  none_made h = let m = length-map xs f in drop_all i (map f xs) (omega arith)

-- The cells of the names from a place on.
module _ (ns : List Spelled) (i : ℕ) where
  pub names_next : (d : Spelled) → i < length ns →
      all_name_cells (drop i (spellings ns)) ≡ name_cells (held (get_or ns i d)) ++ all_name_cells (drop (i + 1) (spellings ns))
  unfolding all_name_cells
  names_next d h = ap all_name_cells (next_made held ns i d h)

  pub names_last : length ns ≤ i → all_name_cells (drop i (spellings ns)) ≡ []
  unfolding all_name_cells
  names_last h = ap all_name_cells (none_made held ns i h)

-- The numbers of the names of a list from a place on.
module _ (g : Name → ℕ) (ns : List Spelled) (i : ℕ) where
  pub list_next : (d : Spelled) → i < length ns → map g (drop i (spellings ns)) ≡ g (held (get_or ns i d)) ∷ map g (drop (i + 1) (spellings ns))
  list_next d h = ap (map g) (next_made held ns i d h)

pub length_list : (g : Name → ℕ) (ns : List Spelled) → length (map g (spellings ns)) ≡ length ns
length_list g ns = length-map (spellings ns) g ∙ length-map ns held

pub length_connectors : (f : Name → ℕ) (ds : List (Disjunct Name)) → length (connectors (map (renamed f) ds)) ≡ length (mentioned ds)
unfolding connectors mentioned
length_connectors f [] = refl
length_connectors f (d ∷ ds) =
    let a = length-map d.left f in
    let b = length-map d.right f in
    let r = length_connectors f ds in
    simp length-append (omega arith)

-- The cells of the disjuncts from a place on, and those of their connectors.
module _ (F : List ℕ) (ts : List Tabled) (k : ℕ) where
  abbrev number : Name → ℕ
  number = number_of (names_from 0 F)

  abbrev rest : List (Disjunct ℕ)
  rest = numbered F (drop (k + 1) (map disjunct_of ts))

  module _ (one : Tabled) (h : k < length ts) (is : one ≡ get_or ts k one) where
    next_one : numbered F (drop k (map disjunct_of ts)) ≡ renamed number (disjunct_of one) ∷ rest
    next_one = ap (numbered F) (next_made disjunct_of ts k one h) ∙ ap (λ (d : Tabled). renamed number (disjunct_of d) ∷ rest) (sym is)

    pub heads_next : (at : ℕ) → heads at (numbered F (drop k (map disjunct_of ts)))
        ≡ length (held one.left) ∷ length (held one.right) ∷ at ∷ heads (at + (length (held one.left) + length (held one.right))) rest
    unfolding heads
    heads_next at =
        ap (heads at) next_one
        ∙ ap₂ (λ (l r : ℕ). l ∷ r ∷ at ∷ heads (at + (l + r)) rest) (length_list number (held one.left)) (length_list number (held one.right))

    pub connectors_next : connectors (numbered F (drop k (map disjunct_of ts)))
        ≡ (map number (spellings (held one.left)) ++ map number (spellings (held one.right))) ++ connectors rest
    unfolding connectors
    connectors_next =
        ap connectors next_one
        ∙ sym (append_assoc (map number (spellings (held one.left))) (map number (spellings (held one.right))) (connectors rest))

    pub mentioned_next : length (mentioned (drop k (map disjunct_of ts)))
        ≡ length (held one.left) + length (held one.right) + length (mentioned (drop (k + 1) (map disjunct_of ts)))
    unfolding mentioned
    mentioned_next =
        let ds = drop (k + 1) (map disjunct_of ts) in
        let l = length-map (held one.left) held in
        let r = length-map (held one.right) held in
        let m = length-append (spellings (held one.left)) (spellings (held one.right) ++ mentioned ds) in
        let n = length-append (spellings (held one.right)) (mentioned ds) in
        ap (λ es. length (mentioned es)) (next_made disjunct_of ts k one h)
        ∙ ap (λ (d : Tabled). length (spellings (held d.left) ++ (spellings (held d.right) ++ mentioned ds))) (sym is)
        ∙ omega arith

  pub heads_last : (at : ℕ) → length ts ≤ k → heads at (numbered F (drop k (map disjunct_of ts))) ≡ []
  unfolding heads
  heads_last at h = ap (λ ds. heads at (numbered F ds)) (none_made disjunct_of ts k h)

  pub connectors_last : length ts ≤ k → connectors (numbered F (drop k (map disjunct_of ts))) ≡ []
  unfolding connectors
  connectors_last h = ap (λ ds. connectors (numbered F ds)) (none_made disjunct_of ts k h)

pub length_numbered : (F : List ℕ) (ts : List Tabled) → length (numbered F (map disjunct_of ts)) ≡ length ts
length_numbered F ts = length-map (map disjunct_of ts) (renamed (number_of (names_from 0 F))) ∙ length-map ts disjunct_of

pub length_heads_of : (F : List ℕ) (ts : List Tabled) (at : ℕ) → length (heads at (numbered F (map disjunct_of ts))) ≡ 3 * length ts
length_heads_of F ts at = length_heads at (numbered F (map disjunct_of ts)) ∙ ap (λ n. 3 * n) (length_numbered F ts)

-- What two lists of connectors have, where the connectors from a disjunct on are left to be written.
pub connectors_room : (p q : Page) (F : List ℕ) (ts : List Tabled) (k : ℕ) (one : Tabled) → k < length ts → one ≡ get_or ts k one →
    Adding p q (connectors (numbered F (drop k (map disjunct_of ts)))) (connectors (numbered F (map disjunct_of ts))) →
    taken p.used p.words + length (mentioned (map disjunct_of ts)) ≤ limit p.table.now →
    taken q.used q.words + (length (held one.left) + length (held one.right)) ≤ limit q.table.now
connectors_room p q F ts k one h is a room =
    let g = number_of (names_from 0 F) in
    let l = map g (spellings (held one.left)) in
    let r = map g (spellings (held one.right)) in
    let m = length_list g (held one.left) in
    let n = length_list g (held one.right) in
    let s = length-append l r in
    let c = length_connectors g (map disjunct_of ts) in
    let left = adding_room p q (connectors (numbered F (map disjunct_of ts))) (connectors (numbered F (drop k (map disjunct_of ts))))
    (l ++ r) (connectors (numbered F (drop (k + 1) (map disjunct_of ts)))) a (connectors_next F ts k one h is) (omega arith)
    in omega arith

-- Of the lists only their lengths count in the three cells of each disjunct.
pub heads_alike : (F : List ℕ) (ts : List Tabled) (at : ℕ) → heads at (numbered [] (map disjunct_of ts)) ≡ heads at (numbered F (map disjunct_of ts))
unfolding heads
heads_alike F [] at = refl
heads_alike F (d ∷ ts) at =
    let f = number_of (names_from 0 []) in
    let g = number_of (names_from 0 F) in
    let l = length_list f (held d.left) ∙ sym (length_list g (held d.left)) in
    let r = length_list f (held d.right) ∙ sym (length_list g (held d.right)) in
    ap₂ (λ (m n : ℕ). m ∷ n ∷ at ∷ heads (at + (m + n)) (numbered [] (map disjunct_of ts))) l r
    ∙ ap (λ hs. length (map g (spellings (held d.left))) ∷ length (map g (spellings (held d.right))) ∷ at ∷ hs)
    (heads_alike F ts (at + (length (map g (spellings (held d.left))) + length (map g (spellings (held d.right))))))

-- The cells of a block, as they are written.
pub block_written : (F : List ℕ) (ts : List Tabled) (b : ℕ) →
    (length ts ∷ 0 ∷ 0 ∷ 0 ∷ heads (third b (length ts)) (numbered [] (map disjunct_of ts))) ++ connectors (numbered F (map disjunct_of ts))
    ≡ block_cells b (numbered F (map disjunct_of ts))
block_written F ts b =
    let ds = numbered F (map disjunct_of ts) in
    ap (λ hs. length ts ∷ 0 ∷ 0 ∷ 0 ∷ (hs ++ connectors ds)) (heads_alike F ts (third b (length ts)))
    ∙ ap (λ (n : ℕ). n ∷ 0 ∷ 0 ∷ 0 ∷ (heads (third b n) ds ++ connectors ds)) (sym (length_numbered F ts))

pub block_length : (F : List ℕ) (ts : List Tabled) (b : ℕ) →
    length (block_cells b (numbered F (map disjunct_of ts))) ≡ 4 + 3 * length ts + length (mentioned (map disjunct_of ts))
block_length F ts b =
    let ds = numbered F (map disjunct_of ts) in
    let n = length-append (heads (third b (length ds)) ds) (connectors ds) in
    let h = length_heads_of F ts (third b (length ds)) in
    let c = length_connectors (number_of (names_from 0 F)) (map disjunct_of ts) in
    omega arith

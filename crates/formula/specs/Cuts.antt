-- How the bytes of a formula are cut into tokens, each with the place where it begins.
use Rattle.std.specs.Prelude.{◌≡◌, ℕ, zero, suc, pred, ◌+◌, Bool, cond, ◌&&◌, ◌||◌, List, [], ◌∷◌, ◌++◌, length, take, drop, replicate, Some, None, Ok, Err, Option, Result, ◌==◌, ◌≢◌, nat_le, nat_lt, slice_index}
use Rattle.std.specs.List.{prefix_len}
use Rattle.lexicon.specs.declared.side.Side.TheVariants.{Left, Right}
use Rattle.refusal.specs.declared.Refusal.{Refusal}
use Rattle.refusal.specs.declared.Refusal.TheVariants.{UnknownMark, BadName}
use Rattle.refusal.specs.declared.fault.LineFault.{LineFault}
use Rattle.formula.specs.declared.token.Join.TheVariants.{And, Or}
use Rattle.formula.specs.declared.rest.Placed.{Placed}
use Rattle.formula.specs.declared.rest.Rest.{Rest}
use Rattle.formula.specs.declared.token.Token.{Token}
use Rattle.formula.specs.declared.token.Bracket.TheVariants.{Round, Brace}
use Rattle.formula.specs.Tokens.{Name, Word, mark, open_with, close_with, connector, spelled, said}

abbrev pub capital : ℕ → Bool
capital b = nat_le 65 b && nat_le b 90

-- A small letter or `*`.
abbrev pub small : ℕ → Bool
small b = (nat_le 97 b && nat_le b 122) || b == 42

-- A name: one or more capitals, then any small letters or stars.
abbrev pub name_length : List ℕ → ℕ
name_length bs = prefix_len capital bs + prefix_len small (drop (prefix_len capital bs) bs)

-- The name that stands at a place of a formula.
abbrev pub name_there : List ℕ → ℕ → Name
name_there formula p = take (name_length (drop p formula)) (drop p formula)

-- The connector of a name that is followed by a byte.
abbrev pub signed : Name → ℕ → Result Word Refusal
signed n b = cond (b == 43) (Ok (connector Right n)) (cond (b == 45) (Ok (connector Left n)) (Err BadName))

-- A name has at most 8 bytes.
abbrev pub name_token : List ℕ → Result Word Refusal
name_token bs =
    cond (nat_lt 8 (name_length bs)) (Err BadName) (signed (take (name_length bs) bs) (slice_index bs (name_length bs)))

abbrev pub mark_token : ℕ → List ℕ → Result Word Refusal
mark_token b bs =
    cond (b == 38) (Ok (mark And))
    (cond (b == 111 && slice_index bs 0 == 114) (Ok (mark Or))
    (cond (b == 40) (Ok (open_with Round))
    (cond (b == 123) (Ok (open_with Brace))
    (cond (b == 41) (Ok (close_with Round))
    (cond (b == 125) (Ok (close_with Brace)) (Err UnknownMark))))))

-- The token that begins with a byte b, before the bytes bs, or why there is none.
abbrev pub token_at : ℕ → List ℕ → Result Word Refusal
token_at b bs = cond (capital b) (name_token (b ∷ bs)) (mark_token b bs)

-- Tokens with their places, up to the end of the bytes or to the first place where no token can be had.
pub data Cut : Type 0 where
  ends : (place : ℕ) → Cut
  fails : (place : ℕ) → Refusal → Cut
  token : (place : ℕ) → Word → Cut → Cut

abbrev pub placed : ℕ → Result Word Refusal → (Word → Cut) → Cut
placed p (Ok w) rest = token p w (rest w)
placed p (Err r) rest = fails p r

-- What is cut after skipping some bytes; the first byte stands at a place. Spaces between tokens mean nothing.
unfoldable pub cut_after : (skip place : ℕ) → List ℕ → Cut
cut_after k p [] = ends p
cut_after (suc k) p (b ∷ bs) = cut_after k (suc p) bs
cut_after zero p (b ∷ bs) =
    cond (b == 32) (cut_after zero (suc p) bs)
    (placed p (token_at b bs) (λ w. cut_after (pred (length (spelled w))) (suc p) bs))

abbrev pub cut : List ℕ → Cut
cut formula = cut_after 0 0 formula

-- What is cut from what is left of a formula.
abbrev pub cut_rest : Rest → Cut
cut_rest r = cut_after 0 r.place r.bytes.now

-- What was found where a token was looked for.
abbrev pub said_there : Result Token Refusal → Result Word Refusal
said_there (Ok t) = Ok (said t)
said_there (Err r) = Err r

-- What is cut where the next token was looked for: the token and what is cut behind it, or why there is none.
abbrev pub next_cut : Rest → Result (Option Placed) LineFault → Cut
next_cut r (Ok None) = ends (r.place + length r.bytes.now)
next_cut r (Ok (Some p)) = token p.at (said p.token) (cut_rest p.rest)
next_cut r (Err e) = fails e.place e.refusal

-- The bytes, read from a place, are the cut's tokens in order, each at its place, with only spaces before and between
-- them; where the cut fails, no token begins.
pub data Laid : List ℕ → ℕ → Cut → Type 0 where
  at_end : (k p : ℕ) → Laid (replicate k 32) p (ends (p + k))
  next : (k p : ℕ) (w : Word) (bs : List ℕ) (c : Cut) → Laid bs (p + k + length (spelled w)) c →
      Laid (replicate k 32 ++ (spelled w ++ bs)) p (token (p + k) w c)
  no_token : (k p b : ℕ) (bs : List ℕ) (r : Refusal) → (b ≢ 32) → token_at b bs ≡ Err r →
      Laid (replicate k 32 ++ (b ∷ bs)) p (fails (p + k) r)

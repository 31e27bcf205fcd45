-- How a refusal becomes a fault of its line, and that one a fault of its text.
use Rattle.std.specs.Prelude.{ℕ, Ok, Err, Result}
use Rattle.refusal.specs.declared.Refusal.{Refusal}
use Rattle.refusal.specs.declared.fault.Fault.{Fault}
use Rattle.refusal.specs.declared.fault.LineFault.{LineFault}

-- A refusal that came at a place of the formula.
abbrev pub fault : ℕ → Refusal → LineFault
fault p r = record { place = p; refusal = r }

-- A refusal of the line as a whole has no place.
abbrev pub of_line : Refusal → LineFault
of_line r = fault 0 r

abbrev pub in_text : ℕ → LineFault → Fault
in_text k e = record { line = k; place = e.place; refusal = e.refusal }

-- What was had stays, and a fault is put in the words of the next layer.
abbrev pub carried : {X E F : Type 0} → (E → F) → Result X E → Result X F
carried f (Ok x) = Ok x
carried f (Err e) = Err (f e)

-- What was had is handed on, and a fault ends it.
abbrev pub then : {X Y E : Type 0} → Result X E → (X → Result Y E) → Result Y E
then (Ok x) k = k x
then (Err e) k = Err e

use Rattle.std.proofs.Common.{◌≡◌, ◌<◌, ◌≤◌, length, get_or, arith}
use Rattle.written.proofs.Cuts.{ClearIn, pieces_step}
use Rattle.written.proofs.pieces.piece_end.Goals as goal

pub returns-then-bytes-i : goal.returns-then-bytes-i
returns-then-bytes-i c =
    let xs = c.args.bytes.now in
    let from : c.args.from ≤ c.loop-i.i = omega arith in
    let to : c.loop-i.i ≤ length xs = omega arith in
    let clear = c.loop-i.invariant in
    let stops : c.loop-i.i < length xs → get_or xs c.loop-i.i 0 ≡ c.args.mark = λ _. c.if-bytes-i.true in
    let cuts = pieces_step c.args.mark xs c.args.from c.loop-i.i from to clear stops in
    record { within = (from, to); clear = clear; stops = stops; cuts = cuts }

pub returns : goal.returns
returns c =
    let xs = c.args.bytes.now in
    let to : length xs ≤ length xs = omega arith in
    let clear : ClearIn c.args.mark xs c.args.from (length xs) = λ k a b. c.loop-i.invariant k a (omega arith) in
    let stops : length xs < length xs → get_or xs (length xs) 0 ≡ c.args.mark = λ h. absurd (omega arith) in
    let cuts = pieces_step c.args.mark xs c.args.from (length xs) c.requires to clear stops in
    record { within = (c.requires, to); clear = clear; stops = stops; cuts = cuts }

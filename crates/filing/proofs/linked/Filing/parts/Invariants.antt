use Rattle.std.proofs.Common.{◌≡◌, length, take}
use Rattle.linkage.specs.Sentences.{size}
use Rattle.filing.specs.Filings.{pairs}
use Rattle.filing.specs.Given.{sentence}
use Rattle.filing.specs.Joinings.{Holds}
use Rattle.filing.proofs.linked.Filing.parts.Given as goal

abbrev pub invariant-loop-link : goal.invariant-loop-link
invariant-loop-link g l =
    (length l.joins.labels.items ≡ size (sentence g.D.Dictionary.meaning l.self.choices)) × Holds (pairs (take l.link-index l.self.links.now)) l.joins

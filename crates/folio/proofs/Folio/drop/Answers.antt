use Rattle.folio.proofs.Folio.drop.Goals as goal

pub returns-clause-edit : goal.returns-clause-edit
returns-clause-edit g c = c.drop.ensures.edit _

use Rattle.folio.proofs.Folio.add.Goals as goal

pub returns-clause-edit : goal.returns-clause-edit
returns-clause-edit g c = c.add.ensures.edit _

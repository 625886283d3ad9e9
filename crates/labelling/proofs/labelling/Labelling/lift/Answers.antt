use Rattle.labelling.proofs.labelling.Labelling.lift.Goals as goal

pub returns-clause-told : goal.returns-clause-told
returns-clause-told g c = (
  c.relabel.new.self,
  c.in_ok-relabel.ensures.told,
  rw (← c.label-gap.ensures.value) c.close_gap.ensures.told,
)

use Rattle.flow.proofs.Changing.{keeps_sound}
use Rattle.flow.proofs.keeps_sound_stands.Goals as goal

pub returns : goal.returns
returns c = keeps_sound

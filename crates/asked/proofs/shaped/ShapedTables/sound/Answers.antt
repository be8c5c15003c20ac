use Rattle.std.proofs.Common.{rules}
use Rattle.rules.specs.Sound.{sound}
use Rattle.asked.proofs.shaped.ShapedTables.sound.Goals as goal

pub returns-then-handsets_sound : goal.returns-then-handsets_sound
unfolding sound
returns-then-handsets_sound g c = search rules

pub returns-else-handsets_sound : goal.returns-else-handsets_sound
unfolding sound
returns-else-handsets_sound g c = search rules

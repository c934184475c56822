use Rattle.std.proofs.Common.{refl}
use Rattle.json.specs.Print.{escape_byte}
use Rattle.eu_json.proofs.write.quoted_status.Goals as goal

pub returns-in-Up : goal.returns-in-Up
unfolding escape_byte
returns-in-Up c = rw c.in-Up.is refl

pub returns-in-Down : goal.returns-in-Down
unfolding escape_byte
returns-in-Down c = rw c.in-Down.is refl

pub returns-in-Starting : goal.returns-in-Starting
unfolding escape_byte
returns-in-Starting c = rw c.in-Starting.is refl

pub returns-in-OutOfService : goal.returns-in-OutOfService
unfolding escape_byte
returns-in-OutOfService c = rw c.in-OutOfService.is refl

pub returns-in-Unknown : goal.returns-in-Unknown
unfolding escape_byte
returns-in-Unknown c = rw c.in-Unknown.is refl

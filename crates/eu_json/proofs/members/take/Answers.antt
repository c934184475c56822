use Rattle.serde_json.proofs.Views.{view-Object, view-lookup}
use Rattle.eu_json.proofs.members.take.Goals as goal

pub returns-in-Object : goal.returns-in-Object
returns-in-Object c = rw (c.in-Object.is, view-Object, c.remove.ensures.value) (view-lookup c.args.name.now c.in-Object.members.entries)

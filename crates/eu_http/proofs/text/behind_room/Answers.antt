use Rattle.std.proofs.Common.{length, drop, sym, arith, ◌-◌}
use Rattle.std.proofs.lemmas.List.{drop_all, take_all, length-drop}
use Rattle.eu_http.proofs.text.behind_room.Goals as goal

pub returns-then-bytes-lt-HEAD_ROOM : goal.returns-then-bytes-lt-HEAD_ROOM
returns-then-bytes-lt-HEAD_ROOM c = sym (drop_all 128 c.args.bytes.now (omega (arith, c.if-bytes-lt-HEAD_ROOM.true)))

pub returns : goal.returns
returns c = take_all (length c.args.bytes.now - 128) (drop 128 c.args.bytes.now) (omega (arith, length-drop 128 c.args.bytes.now))

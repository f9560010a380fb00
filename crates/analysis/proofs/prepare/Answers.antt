-- `analysis::prepare` meets its contract: the buffers are zero before the room is tested.
use Rattle.analysis.proofs.PrepareLaws.{prepared_short, room_blank, prepared_read}
use Rattle.analysis.proofs.prepare.Goals as goal

pub returns-then-not-room_enough : goal.returns-then-not-room_enough
returns-then-not-room_enough c =
    let p = c.clear in
    let k = c.clear-2 in
    let v = c.clear-3 in
    prepared_short c.args.file.now _ _ _ p.new.s k.new.s v.new.s _ p.auto.s k.auto.s v.auto.s p.ensures k.ensures v.ensures c.room_enough.ensures c.if-not-room_enough.true

pub prepare_read-requires : goal.prepare_read-requires
prepare_read-requires c =
    let p = c.clear in
    let k = c.clear-2 in
    let v = c.clear-3 in
    room_blank _ _ _ p.new.s k.new.s v.new.s _ p.auto.s k.auto.s v.auto.s p.ensures k.ensures v.ensures c.room_enough.ensures c.if-not-room_enough.false

pub returns : goal.returns
returns c =
    let p = c.clear in
    let k = c.clear-2 in
    let v = c.clear-3 in
    prepared_read c.args.file.now _ _ _ p.new.s k.new.s v.new.s _ _ p.auto.s k.auto.s v.auto.s c.room_enough.ensures c.if-not-room_enough.false c.prepare_read.ensures

-- `host::keep` meets its contract: as many bytes are stored as fit, and past the transcript's end none.
use mathlib.Core.Path.{sym, ap, ◌∙◌}
use Prim.Native.Nat.{◌+◌, ◌-◌}
use native.Mathlib.Omega.{arith}
use borrow.Rule.Slice.PartMut.{put_mid}
use Rattle.wire.proofs.BytesLaws.{stored_past}
use Rattle.host.proofs.Laws.{stored_part}
use Rattle.host.proofs.keep.Goals as goal

pub returns-then-transcript-from : goal.returns-then-transcript-from
returns-then-transcript-from c = sym (stored_past _ _ _ (omega arith))

pub returns : goal.returns
returns c =
    ap (put_mid c.args.from ((c.args.from + c.min-n.result) - c.args.from) c.args.transcript.now) c.copy_from_slice.ensures.after
    ∙ stored_part _ _ _ _ (omega (arith, c.min-n.ensures)) (omega (arith, c.min-n.ensures)) (λ h. omega (arith, c.min-n.ensures))

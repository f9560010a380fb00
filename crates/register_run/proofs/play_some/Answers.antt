-- `register_run::play_some` meets its contract: the bytes are those that were read, and the answers that they make are said.
use mathlib.Core.Path.{refl, sym}
use native.Mathlib.Omega.{arith}
use lib.Seq.{length-take-le}
use Rattle.moves.specs.Buffers.{run_of}
use Rattle.register_run.proofs.Laws.{answers_fit, piece_played}
use Rattle.register_run.proofs.play_some.Goals as goal

pub slice_bounds-say-end : goal.slice_bounds-say-end
slice_bounds-say-end g c =
    let a = c.args in
    (omega (arith, c.requires.chunk_size_in_bounds_2, c.play_chunk-p.auto.out, answers_fit a.block.now c.read_some-got.new.chunk a.s.number a.s.line (run_of a.s.head a.run.now) c.read_some-got.result.count a.answers.now c.play_chunk-p.ensures.played (omega (arith, c.read_some-got.ensures.count_le_limit, c.requires.limit_le_chunk_size)) (omega (arith, c.read_some-got.ensures.count_le_limit, c.requires.limit_le_chunk_size, c.requires.chunk_size_in_bounds, c.read_some-got.auto.chunk))))

pub slice_bounds-say-end-2 : goal.slice_bounds-say-end-2
slice_bounds-say-end-2 g c =
    let a = c.args in
    sym (length-take-le _ _ (omega (arith, c.requires.chunk_size_in_bounds_2, c.play_chunk-p.auto.out, answers_fit a.block.now c.read_some-got.new.chunk a.s.number a.s.line (run_of a.s.head a.run.now) c.read_some-got.result.count a.answers.now c.play_chunk-p.ensures.played (omega (arith, c.read_some-got.ensures.count_le_limit, c.requires.limit_le_chunk_size)) (omega (arith, c.read_some-got.ensures.count_le_limit, c.requires.limit_le_chunk_size, c.requires.chunk_size_in_bounds, c.read_some-got.auto.chunk)))))

pub returns-clause-played : goal.returns-clause-played
returns-clause-played g c =
    let a = c.args in
    piece_played a.block.now c.read_some-got.new.chunk a.s.number a.s.line (run_of a.s.head a.run.now) c.read_some-got.result.count a.answers.now
    c.play_chunk-p.ensures.played a.output a.x a.limit a.transcript.now refl refl c.read_some-got.ensures.input_read c.read_some-got.ensures.count_le_limit
    (omega (arith, c.read_some-got.ensures.count_le_limit, c.requires.limit_le_chunk_size, c.requires.chunk_size_in_bounds, c.read_some-got.auto.chunk)) (omega (arith, c.requires.chunk_size_in_bounds_2, c.play_chunk-p.auto.out, answers_fit a.block.now c.read_some-got.new.chunk a.s.number a.s.line (run_of a.s.head a.run.now) c.read_some-got.result.count a.answers.now c.play_chunk-p.ensures.played (omega (arith, c.read_some-got.ensures.count_le_limit, c.requires.limit_le_chunk_size)) (omega (arith, c.read_some-got.ensures.count_le_limit, c.requires.limit_le_chunk_size, c.requires.chunk_size_in_bounds, c.read_some-got.auto.chunk)))) c.say-exchange.ensures.text c.say-exchange.ensures.received

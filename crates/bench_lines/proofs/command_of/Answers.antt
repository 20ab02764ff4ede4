-- `bench_lines::command_of` meets its contract: the line is cut as in the definition, and a name that is none of a player may be a start's.
-- Assumes nothing.
use mathlib.Core.Path.{◌∙◌}
use Rattle.bench_lines.proofs.Ways.{line-starts, no-packet, packet-taken}
use Rattle.bench_lines.proofs.command_of.Goals as goal

pub returns-in_err-hex_in-in-Some : goal.returns-in_err-hex_in-in-Some
returns-in_err-hex_in-in-Some c =
    c.from_residual.ensures
    ∙ no-packet c.args.line.now _ _ c.split_word.ensures.word c.split_word.ensures.rest _ c.in-Some.ensures c.in_err-hex_in-in-Some.ensures

pub returns-in_ok-hex_in-in-Some : goal.returns-in_ok-hex_in-in-Some
returns-in_ok-hex_in-in-Some c =
    packet-taken c.args.line.now _ _ c.split_word.ensures.word c.split_word.ensures.rest _ c.in-Some.ensures _ c.in_ok-hex_in-in-Some.ensures

pub returns-in-None : goal.returns-in-None
returns-in-None c =
    line-starts c.args.line.now _ _ c.split_word.ensures.word c.split_word.ensures.rest c.in-None.ensures _ c.start_of.ensures

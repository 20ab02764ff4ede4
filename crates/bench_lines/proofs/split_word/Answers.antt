-- `bench_lines::split_word` meets its contract: the line is cut at its first space.
-- Assumes nothing.
use Rattle.bench_lines.proofs.Words.{found-word, found-rest, whole-word, no-rest}
use Rattle.bench_lines.proofs.split_word.Goals as goal

pub returns-in-Some-clause-word : goal.returns-in-Some-clause-word
returns-in-Some-clause-word c = found-word c.args.line.now c.in-Some.end c.in-Some.ensures

pub returns-in-Some-clause-rest : goal.returns-in-Some-clause-rest
returns-in-Some-clause-rest c = found-rest c.args.line.now c.in-Some.end c.in-Some.ensures

pub returns-in-None-clause-word : goal.returns-in-None-clause-word
returns-in-None-clause-word c = whole-word c.args.line.now c.in-None.ensures

pub returns-in-None-clause-rest : goal.returns-in-None-clause-rest
returns-in-None-clause-rest c = no-rest c.args.line.now c.in-None.ensures

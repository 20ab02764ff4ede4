-- `bench_lines::start_of` meets its contract: the words are cut as in the definition, and each step that gives none is a test of it that fails.
-- Assumes nothing.
use native.Mathlib.Omega.{arith}
use mathlib.Core.Path.{◌∙◌}
use Rattle.bench_lines.proofs.Ways.{no-start, start-words, no-number, no-instance, no-floor, no_value, starts}
use Rattle.bench_lines.proofs.start_of.Goals as goal

pub returns-in_default : goal.returns-in_default
returns-in_default c = no-start c.args.name.now c.args.rest.now (λ two s. omega arith)

pub returns-in_default-2 : goal.returns-in_default-2
returns-in_default-2 c = no-start c.args.name.now c.args.rest.now (λ two s. omega arith)

pub returns-in_default-3 : goal.returns-in_default-3
returns-in_default-3 c = no-start c.args.name.now c.args.rest.now (λ two s. omega arith)

pub returns-in_err-number_within : goal.returns-in_err-number_within
returns-in_err-number_within c =
    start-words c.args.name.now c.args.rest.now c.split_word.ensures.word c.split_word.ensures.rest c.split_word-2.ensures.word c.split_word-2.ensures.rest
    (c.from_residual.ensures ∙ no-number c.args.name.now _ _ _ (omega arith) (omega arith) c.in_err-number_within.ensures)

pub returns-in_err-decimal_in : goal.returns-in_err-decimal_in
returns-in_err-decimal_in c =
    start-words c.args.name.now c.args.rest.now c.split_word.ensures.word c.split_word.ensures.rest c.split_word-2.ensures.word c.split_word-2.ensures.rest
    (c.from_residual-in_err-decimal_in.ensures
    ∙ no-instance c.args.name.now _ _ _ (omega arith) (omega arith) _ c.in_ok-number_within.ensures c.in_err-decimal_in.ensures)

pub returns-in_err-decimal_in-2 : goal.returns-in_err-decimal_in-2
returns-in_err-decimal_in-2 c =
    start-words c.args.name.now c.args.rest.now c.split_word.ensures.word c.split_word.ensures.rest c.split_word-2.ensures.word c.split_word-2.ensures.rest
    (c.from_residual-in_err-decimal_in-2.ensures
    ∙ no-floor c.args.name.now _ _ _ (omega arith) (omega arith) _ c.in_ok-number_within.ensures
    _ c.in_ok-decimal_in.ensures c.in_err-decimal_in-2.ensures)

pub returns-in_err-hex_in : goal.returns-in_err-hex_in
returns-in_err-hex_in c =
    start-words c.args.name.now c.args.rest.now c.split_word.ensures.word c.split_word.ensures.rest c.split_word-2.ensures.word c.split_word-2.ensures.rest
    (c.from_residual-in_err-hex_in.ensures
    ∙ no_value c.args.name.now _ _ _ (omega arith) (omega arith) _ c.in_ok-number_within.ensures _ c.in_ok-decimal_in.ensures
    _ c.in_ok-decimal_in-2.ensures c.in_err-hex_in.ensures)

pub returns : goal.returns
returns c =
    start-words c.args.name.now c.args.rest.now c.split_word.ensures.word c.split_word.ensures.rest c.split_word-2.ensures.word c.split_word-2.ensures.rest
    (rw c.value_from.ensures (starts c.args.name.now _ _ _ (omega arith) (omega arith) _ c.in_ok-number_within.ensures _ c.in_ok-decimal_in.ensures
    _ c.in_ok-decimal_in-2.ensures _ c.in_ok-hex_in.ensures))

-- `bench_lines::digit` meets its contract: each range is the definition's, and the bytes between them are no digits.
-- Assumes nothing.
use native.Mathlib.Omega.{arith}
use Rattle.bench_lines.proofs.Digits.{decimal-digit, upper-digit, lower-digit, no-digit}
use Rattle.bench_lines.proofs.digit.Goals as goal

pub returns-in-48-to-57 : goal.returns-in-48-to-57
returns-in-48-to-57 c = decimal-digit c.args.byte (omega arith) (omega arith)

pub returns-in-65-to-70 : goal.returns-in-65-to-70
returns-in-65-to-70 c = upper-digit c.args.byte (omega arith) (omega arith)

pub returns-in-97-to-102 : goal.returns-in-97-to-102
returns-in-97-to-102 c = lower-digit c.args.byte (omega arith) (omega arith)

pub returns-in_default : goal.returns-in_default
returns-in_default c = no-digit c.args.byte (λ least. omega arith) (λ least. omega arith) (λ least. omega arith)

pub returns-in_default-2 : goal.returns-in_default-2
returns-in_default-2 c = no-digit c.args.byte (λ least. omega arith) (λ least. omega arith) (λ least. omega arith)

pub returns-in_default-3 : goal.returns-in_default-3
returns-in_default-3 c = no-digit c.args.byte (λ least. omega arith) (λ least. omega arith) (λ least. omega arith)

pub returns-in_default-4 : goal.returns-in_default-4
returns-in_default-4 c = no-digit c.args.byte (λ least. omega arith) (λ least. omega arith) (λ least. omega arith)

use Rattle.std.proofs.Common.{◌≡◌, ◌<◌, length, sym, arith}
use Rattle.std.proofs.lemmas.Bool.{eqb-true}
use Rattle.script.proofs.Saying.{gives_why, says_nothing, says_what, says_why, not_plain, some_left}
use Rattle.script.proofs.line.read_line.Goals as goal

pub returns-in_err-text : goal.returns-in_err-text
returns-in_err-text c =
    let plain = c.in_err-text.ensures in
    gives_why _ _ c.from_residual.ensures.1 (rw plain.1 (not_plain c.args.line.now plain.0))

pub returns-then-is_empty : goal.returns-then-is_empty
returns-then-is_empty c =
    let plain = c.in_ok-text.ensures in
    let none : length c.in_ok-words.words.items ≡ 0 = omega (arith, eqb-true _ 0 (sym c.if-is_empty.ensures)) in
    says_nothing c.args.line.now _ _ plain.0 plain.1 c.in_ok-words.ensures none

pub returns-in_err-command : goal.returns-in_err-command
returns-in_err-command c =
    let plain = c.in_ok-text.ensures in
    let some : 0 < length c.in_ok-words.words.items = omega (arith, some_left c.in_ok-words.words.len c.if-is_empty.ensures) in
    gives_why _ _ c.from_residual-in_err-command.ensures.1 (says_why c.args.line.now _ _ plain.0 plain.1 c.in_ok-words.ensures _ _ some c.deref.ensures.value c.in_err-command.ensures)

pub returns : goal.returns
returns c =
    let plain = c.in_ok-text.ensures in
    let some : 0 < length c.in_ok-words.words.items = omega (arith, some_left c.in_ok-words.words.len c.if-is_empty.ensures) in
    says_what c.args.line.now _ _ plain.0 plain.1 c.in_ok-words.ensures _ _ some c.deref.ensures.value c.in_ok-command.ensures

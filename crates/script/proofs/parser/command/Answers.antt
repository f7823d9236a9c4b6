use Rattle.std.proofs.Common.{◌∙◌}
use Rattle.script.proofs.FirstWord.{no_slip}
use Rattle.script.proofs.parser.command.Goals as goal

pub returns-in-None : goal.returns-in-None
returns-in-None c = c.plain_command.ensures ∙ no_slip c.args.words.now _ _ c.in-Some.ensures.cases.0 c.in-None.ensures

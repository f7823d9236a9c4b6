use Rattle.script.proofs.Saying.{text_read}
use Rattle.script.proofs.line.plain_text.Goals as goal

pub returns : goal.returns
returns c = text_read c.args.line.now _ _ _ _ _ c.if-not-is_ascii.ensures.cases c.map_err.ensures.cases c.from_utf8.ensures.cases

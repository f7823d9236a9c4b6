use Rattle.std.proofs.Common.{subst}
use Rattle.std.proofs.lemmas.Result.{IfOk-weaker}
use Rattle.ledger.specs.Kept.{FutureKept}
use Rattle.ledger.specs.View.{view}
use Rattle.ledger.proofs.Keeping.{sound_of, future_kept}
use Rattle.session.proofs.list_option.check_listing.Goals as goal

pub returns-clause-sound : goal.returns-clause-sound
returns-clause-sound c =
    IfOk-weaker c.check_option.result _ _ (λ future listed. subst FutureKept listed (future_kept (view c.args.state.now) (sound_of c.args.state.now.kept) c.args.order.future)) c.check_option.ensures.future

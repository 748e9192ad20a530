use Rattle.std.proofs.Common.{arith, ◌≡◌, ℕ, ◌+◌, true, false, ap, sym, ◌∙◌, subst}
use Rattle.crossbeam_channel.specs.Claims.{view}
use Rattle.policy_actors.specs.ChannelProtocol.{ChannelLog, channel_log, IsBatch}
use Rattle.policy_actors.proofs.Moves.{gives, learns}
use Rattle.policy_actors.proofs.mail.Outbox.send.Goals as goal

pub send_as-requires-clause-rule : goal.send_as-requires-clause-rule
send_as-requires-clause-rule g c = let e = c.args.self.now in let v = view e.pass in
    let given : v.given ≡ e.sent = ap (λ (y : ChannelLog). y.given) e.viewed in (
      gives _ _ _ _ _ v _ (ap (λ (y : ChannelLog). y.gives) e.viewed)
          (subst (λ (n : ℕ). IsBatch g.S.FedTrace.known g.S.FedTrace.most g.S.FedTrace.size n c.args.batch) (sym given) c.requires),
      learns _ _ _ _ _,
    )

pub invariant_of-self-clause-viewed : goal.invariant_of-self-clause-viewed
invariant_of-self-clause-viewed g c = let e = c.args.self.now in let v = view e.pass in
    let sent : view c.send_as.new.pass ≡ channel_log v.gives v.takes (v.given + 1) v.taken = c.in-Ok.ensures.rule in
    sent ∙ (λ i. channel_log (e.viewed i).gives (e.viewed i).takes ((e.viewed i).given + 1) (e.viewed i).taken) ∙ ap (λ (n : ℕ). channel_log true false n 0) (omega (arith, c.in-Some.ensures))

use Rattle.std.proofs.Common.{length, ap, arith, length-append}
use Rattle.std.proofs.lemmas.Grind.{common_steps}
use Rattle.stamps.specs.Trays.{elements}
use Rattle.nodes.specs.Posting.{to_all_but}
use Rattle.nodes.proofs.Addressed.{one_more_server, servers_reached}
use Rattle.nodes.proofs.posting.post_to_all_but.Goals as goal
use Rattle.nodes.proofs.posting.post_to_all_but.Goals.{then-ne, else-ne}

pub post-requires : goal.post-requires
post-requires c =
    let before = elements c.args.pool.now in
    let so_far = to_all_but c.args.but c.loop-receiver.receiver c.args.message in
    let used = ap length c.loop-receiver.invariant.0 in
    let all = servers_reached c.args.but c.args.servers c.args.message in
    let passed = servers_reached c.args.but c.loop-receiver.receiver c.args.message in
    grind (arith, common_steps, used, all, passed, length-append before so_far)

pub loop-receiver-preserved : goal.loop-receiver-preserved
loop-receiver-preserved c =
    let more = one_more_server c.args.but c.loop-receiver.receiver c.args.message in
    elim c.if-ne.branch [
      | then-ne w ↦ grind (arith, common_steps, more)
      | else-ne w ↦ grind (arith, common_steps, more)
    ]

use Rattle.std.proofs.Common.{length, ap, arith, length-append}
use Rattle.stamps.specs.Trays.{elements}
use Rattle.nodes.specs.Serving.{passed_on, slot_for}
use Rattle.nodes.proofs.Addressed.{few_passed_on}
use Rattle.nodes.proofs.Waiting.{waiting_few}
use Rattle.nodes.proofs.server.Server.take_in.Goals as goal

pub settle-requires : goal.settle-requires
settle-requires g c =
    let t = c.args.seat.now in
    let a = c.args.write.now in
    let held = slot_for c.args.self.now a in
    let few = few_passed_on t a held c.requires.may.me in
    let longer = ap length c.take_in_hand.ensures.posted.0 in
    let waits = waiting_few c.take_in_hand.new.self t.sizes.clients in
    omega (arith, c.requires.room, c.take_in_hand.ensures.posted.1, longer, few, waits, length-append (elements c.args.pool.now) (passed_on t a held))

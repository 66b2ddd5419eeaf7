use Rattle.risk_board.proofs.Held.{held_with_room}
use Rattle.risk_board.proofs.plain_hand.PlainHandHand.reserve.Goals as goal

-- the room that was there stays where more is refused
pub invariant_of-self : goal.invariant_of-self
invariant_of-self g c =
    held_with_room c.self.inside.kept c.reserve.new.self c.self.inside.spare c.self.invariant
    c.reserve.ensures.kept (c.reserve.ensures.room c.self.inside.spare c.self.invariant.room)

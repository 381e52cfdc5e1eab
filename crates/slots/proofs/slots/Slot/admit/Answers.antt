use Rattle.slots.proofs.slots.Slot.admit.Goals as goal

pub returns-in-Idle-B-clause-after : goal.returns-in-Idle-B-clause-after
returns-in-Idle-B-clause-after c =
    rw (c.in-Idle-B.is-0, c.in-Idle-B.is-1, c.empty-self.ensures, c.empty-self-in-Idle-B.ensures)

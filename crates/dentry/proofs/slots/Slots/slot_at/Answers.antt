-- `slot_at` meets its contract: each return is one case of a slot's meaning.
use mathlib.Core.Path.{sym, ◌∙◌}
use Rattle.dentry.specs.Slot.{well_formed}
use Rattle.dentry.proofs.Cases.{slot_free, slot_malformed, Formed, other_hash, other_length, other_bytes, slot_match}
use Rattle.dentry.proofs.slots.Slots.slot_at.Goals as goal
use Rattle.dentry.proofs.slots.Slots.slot_at.Goals.{Else-not-fits}

-- past both tests a well-formed entry starts there
entry : (k : Else-not-fits) → let a = k.args in Formed a.self.layout a.self.part.now a.slot k.get16-len.result
unfolding well_formed
entry k = record { used = λ z. k.if-slot_bit-eq0.false (k.slot_bit.ensures ∙ z); sized = k.get16-len.ensures; fits = k.if-not-fits.false }

pub returns-then-slot_bit-eq0 : goal.returns-then-slot_bit-eq0
returns-then-slot_bit-eq0 c =
    sym (slot_free _ _ _ _ (sym c.slot_bit.ensures ∙ c.if-slot_bit-eq0.true))

pub returns-then-not-fits : goal.returns-then-not-fits
unfolding well_formed
returns-then-not-fits c =
    sym (slot_malformed _ _ _ _ (λ z. c.if-slot_bit-eq0.false (c.slot_bit.ensures ∙ z)) c.get16-len.ensures c.if-not-fits.true)

pub returns-then-get32-name : goal.returns-then-get32-name
returns-then-get32-name c =
    sym (other_hash _ (entry (goal.at.returns-then-get32-name c).Else-not-fits) c.get32.ensures c.if-get32-name.true)

pub returns-then-len-name : goal.returns-then-len-name
returns-then-len-name c =
    sym (other_length _ (entry (goal.at.returns-then-len-name c).Else-not-fits) c.get32.ensures c.if-get32-name.false c.if-len-name.true)

pub returns-then-same_at : goal.returns-then-same_at
returns-then-same_at c =
    let own = c.if-same_at.true in
    sym (slot_match _ (entry (goal.at.returns-then-same_at c).Else-not-fits) c.get32.ensures c.if-get32-name.false c.if-len-name.false c.same_at.ensures own
    c.get32-then-same_at.ensures)

pub returns : goal.returns
returns c =
    sym (other_bytes _ (entry (goal.at.returns c).Else-not-fits) c.get32.ensures c.if-get32-name.false c.if-len-name.false c.same_at.ensures
    c.if-same_at.false)

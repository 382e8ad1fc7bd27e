-- `scan` meets its contract: a call out of shape, or what the scan of the slots came to.
use Prim.Native.Nat.{ℕ}
use native.Mathlib.Omega.{arith}
use mathlib.Core.Path.{◌≡◌, sym, ap, ◌∙◌}
use mathlib.Core.Bool.{Bool, true, false, ◌&&◌}
use mathlib.Core.List.{List}
use lib.ListN.{length, drop}
use lib.Dec.{eqb}
use Rattle.std.specs.Prelude.{Option, Result}
use Rattle.answer.specs.declared.Stop.{Stop}
use Rattle.dentry.specs.declared.Layout.{Layout}
use Rattle.dentry.specs.Slot.{wanted, in_part}
use Rattle.dentry.specs.Scan.{turns_in, sought_of}
use Rattle.dentry.proofs.Runs.{entries_most}
use Rattle.name_hash.specs.Hash.{hash_of}
use Rattle.scan_export.specs.Scanned.{crossing, is_scan, scanned}
use Rattle.scan_export.proofs.scan.Goals as goal

out_of_shape : (l : Layout) (block name : List ℕ) → is_scan block name ≡ false → scanned l block name ≡ record { answer = 4; inode = 0; turns = 0 }
unfolding scanned
out_of_shape l block name f = rw f

-- what the scan of the slots came to crosses
crosses : (l : Layout) (block name : List ℕ) {m : Layout} {part : List ℕ} {hash turns : ℕ} (r : Result (Option ℕ) Stop) → is_scan block name ≡ true
    → (m ≡ l) × (part ≡ drop l.start block) → hash ≡ hash_of name
    → (in_part m part (wanted hash name) ≡ sought_of r) × (turns ≡ turns_in m part (wanted hash name)) → crossing (sought_of r) turns ≡ scanned l block name
unfolding scanned
crosses l block name r shape slots hashed came = rw shape (cc)

pub returns-then-not-block-is_name-clause-value : goal.returns-then-not-block-is_name-clause-value
returns-then-not-block-is_name-clause-value c =
    let shape = ap (λ (b : Bool). eqb (length c.args.block.now) 4096 && b) (sym c.is_name.ensures) ∙ c.if-not-block-is_name.true in
    rw c.number.ensures (sym (out_of_shape _ _ _ shape))

pub overflow_cast-turns : goal.overflow_cast-turns
overflow_cast-turns c =
    let most = c.scan_slots-found.ensures.turns_bound in
    let slots = c.slots_of.result.inside.map in
    let entries = entries_most c.slots_of.result.layout c.slots_of.result.part.now (wanted c.hash-hash.result c.args.bytes.now) in
    omega arith

pub returns-clause-value : goal.returns-clause-value
returns-clause-value c =
    let a = c.args in
    let shape = ap (λ (b : Bool). eqb (length a.block.now) 4096 && b) (sym c.is_name.ensures) ∙ c.if-not-block-is_name.false in
    c.crossing.ensures ∙ crosses _ _ _ _ shape c.slots_of.ensures c.hash-hash.ensures c.scan_slots-found.ensures.name_value

-- `at_file` meets its contract: each return is a case of the file's inode.
use Prim.Native.Nat.{ℕ, ◌+◌, ◌≤◌}
use native.Mathlib.Omega.{arith}
use mathlib.Core.Path.{◌≡◌, sym, ap, ◌∙◌}
use mathlib.Core.Bool.{true, false}
use Rattle.inode.specs.Inode.{inline_start, is_regular, is_past}
use Rattle.inode.proofs.Inline.{inline_room}
use Rattle.ask_node.specs.declared.Fetch.{Fetch}
use Rattle.ask_node.specs.Wants.{kept_in}
use Rattle.ask_directory.specs.declared.Spot.{Spot}
use Rattle.ask_directory.specs.Left.{question}
use Rattle.ask_directory.specs.Move.{fetch_move}
use Rattle.ask_directory.proofs.Fetches.{fetch_in}
use Rattle.ask_path.proofs.Names.{no_names}
use Rattle.ask_path.proofs.Spots.{file_spot}
use Rattle.ask_path.proofs.Files.{kind_came, past_came, inline_came, fetch_came}
use Rattle.ask_path.proofs.at_file.Goals as goal
use Rattle.ask_path.proofs.at_file.Goals.{Else-is_past, Else-not-is_regular}

is_regular_lem : (k : Else-not-is_regular) → is_regular k.inode_of-i.result ≡ true
is_regular_lem k = sym k.is_regular.ensures ∙ k.if-not-is_regular.false

inside : (k : Else-is_past) → is_past k.inode_of-i.result k.args.index ≡ false
inside k = sym k.is_past.ensures ∙ k.if-is_past.false

pub returns-then-not-is_regular : goal.returns-then-not-is_regular
returns-then-not-is_regular c =
    let p : Spot = record { ino = c.args.ino; name_at = c.args.name_at; level = 0; block = 0 } in
    let a = c.args in
    let other = sym c.is_regular.ensures ∙ c.if-not-is_regular.true in
    record {
      by_index = λ path seen behind.
          let q = question (kept_in c.args.kept) path a.index in
          rw c.go_to.ensures (kind_came q p a.bytes.now seen (no_names path a.name_at behind) c.inode_of-i.ensures other);
      by_index_2 = λ path behind. rw c.go_to.ensures tt;
    }

pub returns-then-is_past : goal.returns-then-is_past
returns-then-is_past c =
    let here = goal.at.returns-then-is_past c in
    let p : Spot = record { ino = c.args.ino; name_at = c.args.name_at; level = 0; block = 0 } in
    let a = c.args in
    let past = sym c.is_past.ensures ∙ c.if-is_past.true in
    record {
      by_index = λ path seen behind.
          let q = question (kept_in c.args.kept) path a.index in
          let no = no_names path a.name_at behind in
          rw c.go_to-then-is_past.ensures (past_came q p a.bytes.now seen no c.inode_of-i.ensures (is_regular_lem here.Else-not-is_regular) past);
      by_index_2 = λ path behind. rw c.go_to-then-is_past.ensures tt;
    }

-- contents in the inode end before it does
room_of : {n k : ℕ} → n ≡ k → inline_start + k ≤ 4052 → n + inline_start ≤ 4096
room_of e h = omega arith

pub count_in-count-requires : goal.count_in-count-requires
count_in-count-requires c = inside c

pub returns-then-has_inline_data : goal.returns-then-has_inline_data
returns-then-has_inline_data c =
    let here = goal.at.returns-then-has_inline_data c in
    let p : Spot = record { ino = c.args.ino; name_at = c.args.name_at; level = 0; block = 0 } in
    let a = c.args in
    let count = c.count_in-count.ensures.0 in
    let inline = sym c.has_inline_data.ensures ∙ c.if-has_inline_data.true in
    record {
      by_index = λ path seen behind.
          let q = question (kept_in c.args.kept) path a.index in
          let no = no_names path a.name_at behind in
          rw c.go_to-then-has_inline_data.ensures
          (inline_came q p a.bytes.now seen no c.inode_of-i.ensures (is_regular_lem here.Else-not-is_regular) _ (inside here.Else-is_past) count inline);
      by_index_2 = λ path behind. rw c.go_to-then-has_inline_data.ensures
          (room_of count (inline_room _ (is_regular_lem here.Else-not-is_regular) inline a.index (inside here.Else-is_past)));
    }

pub returns : goal.returns
returns c =
    let here = goal.at.returns c in
    let p : Spot = record { ino = c.args.ino; name_at = c.args.name_at; level = 0; block = 0 } in
    let a = c.args in
    let count = c.count_in-count.ensures.0 in
    let outside = sym c.has_inline_data.ensures ∙ c.if-has_inline_data.false in
    let same = c.fetch_block-f.ensures.value in
    let next = c.fetch_move.ensures ∙ ap (λ (f : Fetch). fetch_move f a.index p c.count_in-count.result) same in
    record {
      by_index = λ path seen behind.
          let q = question (kept_in c.args.kept) path a.index in
          let no = no_names path a.name_at behind in
          rw next
          (fetch_came q p a.bytes.now seen no c.inode_of-i.ensures (is_regular_lem here.Else-not-is_regular) _ (inside here.Else-is_past) count outside);
      by_index_2 = λ path behind.
          let spot = file_spot path a.index a.bytes.now p behind c.inode_of-i.ensures (inside here.Else-is_past) in
          rw c.fetch_move.ensures
          (fetch_in path a.index a.bytes.now p spot c.fetch_block-f.result a.index _
          c.count_in-count.ensures.2 c.fetch_block-f.ensures.hop_in);
    }

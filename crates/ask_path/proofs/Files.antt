-- The file's inode came, or its block: each case is a move to the answer, or to what is fetched.
use Prim.Native.Nat.{ℕ}
use mathlib.Core.Path.{◌≡◌, refl, sym, ap, ◌∙◌}
use mathlib.Core.Bool.{true, false}
use mathlib.Core.List.{List, []}
use Rattle.answer.specs.declared.Stop as r
use Rattle.answer.specs.declared.Stop.TheVariants.{PastEnd, KindNotRead}
use Rattle.answer.specs.Number.{stop_number}
use Rattle.walk.specs.Walk.{Seen, Walk, done, Outcome, stop, and_then}
use Rattle.inode.specs.declared.Inode.{Inode}
use Rattle.inode.specs.Inode.{inode_of, has_inline_data, is_regular, addresses_in, is_past, count_in}
use Rattle.node.specs.Block.{held, block_walk}
use Rattle.pull.specs.Walk.{Block, at_file}
use Rattle.pull.proofs.Cases.{file_other, file_past, file_inline, file_block}
use Rattle.asking.specs.Asking.{Asking}
use Rattle.asking.specs.Table.{asking}
use Rattle.asking.specs.Pull.{Ending, came}
use Rattle.ask_node.specs.Fetch.{block_fetch}
use Rattle.ask_node.proofs.Fetching.{block_fetched}
use Rattle.ask_directory.specs.declared.Spot.{Spot}
use Rattle.ask_directory.specs.declared.Goes.TheVariants.{Stop, Full, Inline}
use Rattle.ask_directory.specs.Left.{Question, bounds_in, names_at, inode_then, data_then}
use Rattle.ask_directory.specs.Move.{moved, no_target, fetch_move}
use Rattle.ask_directory.proofs.Fetches.{stop_moved, full_moved, inline_moved, block_hops, fetch_moved}

module _ (q : Question) (p : Spot) (inode : List ℕ) (s : Seen) (e : names_at q p ≡ []) where
  -- ---- its inode came
  abbrev from_inode : List (List ℕ) → Asking Ending
  from_inode names = asking q.kept came s (inode_then q p.ino names inode)

  to_file : {w : Walk (Outcome Block)} → at_file (bounds_in q) q.index p.ino inode ≡ w → from_inode (names_at q p) ≡ asking q.kept came s w
  unfolding inode_then
  to_file f = ap from_inode e ∙ ap (asking q.kept came s) f

  refused : (reason : r.Stop) → at_file (bounds_in q) q.index p.ino inode ≡ done (stop (stop_number reason))
      → moved q inode s (no_target p (Stop reason)) ≡ from_inode (names_at q p)
  unfolding asking
  refused reason f = stop_moved q inode s p reason ∙ sym (to_file f)

  module _ {i : Inode} (read : i ≡ inode_of inode) where
    pub kind_came : is_regular i ≡ false → moved q inode s (no_target p (Stop KindNotRead)) ≡ asking q.kept came s (inode_then q p.ino (names_at q p) inode)
    kind_came r = refused KindNotRead (file_other (bounds_in q) q.index p.ino inode read r)

    module _ (regular : is_regular i ≡ true) where
      pub past_came : is_past i q.index ≡ true
          → moved q inode s (no_target p (Stop PastEnd)) ≡ asking q.kept came s (inode_then q p.ino (names_at q p) inode)
      past_came past = refused PastEnd (file_past (bounds_in q) q.index p.ino inode read regular past)

      module _ (count : ℕ) (inside : is_past i q.index ≡ false) (c : count ≡ count_in i q.index) where
        pub inline_came : has_inline_data i ≡ true
            → moved q inode s (no_target p (Inline count)) ≡ asking q.kept came s (inode_then q p.ino (names_at q p) inode)
        unfolding asking
        inline_came d =
            inline_moved q inode s p count ∙ sym (to_file (file_inline (bounds_in q) q.index p.ino inode read count regular inside c d))

        -- its block is fetched
        abbrev to_block : (List (List ℕ)) → Asking Ending
        to_block names =
            asking q.kept came s
            (and_then (block_walk (bounds_in q) p.ino inode (addresses_in (inode_of inode)) q.index) (data_then q p inode names))

        pub fetch_came : has_inline_data i ≡ false → moved q inode s (fetch_move (block_fetch q.kept inode q.index) q.index p count)
            ≡ asking q.kept came s (inode_then q p.ino (names_at q p) inode)
        unfolding data_then
        fetch_came d =
            let own : count ≡ count_in (inode_of inode) q.index = rw read at c in
            let f = block_fetch q.kept inode q.index in
            let block = file_block (bounds_in q) q.index p.ino inode refl _ (rw read at regular) (rw read at inside) refl _ (rw read at d) refl in
            fetch_moved q inode p q.index f count s (block_hops q.kept inode q.index) (λ _. (e, own))
            ∙ block_fetched q.kept p.ino (data_then q p inode (names_at q p)) s inode q.index
            ∙ ap to_block e ∙ sym (to_file block)

  -- ---- its block came
  pub full_came : (block : List ℕ) (count : ℕ) → count ≡ count_in (inode_of inode) q.index
      → moved q block s (no_target p (Full count)) ≡ asking q.kept came s (data_then q p inode (names_at q p) (held block))
  unfolding data_then asking
  full_came block count c = full_moved q block s p count ∙ rw (e, c)

-- K6's sentences on a keep file and the image it was written from, for every image, path, index and room.
use Prim.Native.Nat.{ℕ, ◌≤◌}
use native.Mathlib.Omega.{arith}
use mathlib.Core.Path.{◌≡◌, refl, sym, ap, ap₂, subst, ◌∙◌}
use mathlib.Core.Bool.{Bool, true, false, ◌&&◌, and-false}
use mathlib.Core.Logic.{⊎_elim}
use mathlib.Core.List.{List, []}
use lib.ListN.{length, replicate, length-replicate}
use Rattle.field.specs.Card.{card_of}
use Rattle.field.specs.Number.{le16, le32}
use Rattle.superblock.specs.Shape.{in_shape}
use Rattle.checkpoint.specs.declared.Volume.{Volume}
use Rattle.checkpoint.specs.Volume.{Opening, Opened, Refused, opened_image}
use Rattle.checkpoint.proofs.Inside.{image_shaped, image_volume}
use Rattle.walk.specs.Walk.{view_of}
use Rattle.node.specs.Node.{bounds_of}
use Rattle.path.specs.Path.{part_count, is_path}
use Rattle.pull.specs.Pull.{Lent, lending, Result, result_in, lent_in_shape, call_in_shape, pulled, nodes_left}
use Rattle.pull.specs.declared.Pulled.{Pulled}
use Rattle.pull.proofs.Results.{call_in_shape_lem}
use Rattle.pull.proofs.Theorems.{run_some}
use Rattle.pull.proofs.Results as pull
use Rattle.compare.specs.declared.Compared.{Compared}
use Rattle.compare.specs.Difference.{difference}
use Rattle.compare.specs.Compare.{verdict}
use Rattle.compare.proofs.Openings.{lists_compared, compared_opened}
use Rattle.compare.proofs.Openings as compare
use Rattle.pull_again.specs.Demand.{said, SamePull}
use Rattle.pull_again.proofs.Steps.{Came, lists_fit, nodes_of_run, blocks_of_run, some_past}
use Rattle.pull_again.proofs.Demand.{whenever_same, same_itself}
use Rattle.keep_file.specs.Keep.{Keep}
use Rattle.keep_file.specs.Reading.{kept, read_keep}
use Rattle.keep_file.proofs.GivenBack.{given_back}
use Rattle.keep_file.proofs.Refusing.{refused_exactly}
use Rattle.keep.specs.declared.Written.{Written}
use Rattle.keep.specs.Writing.{zeros, keep_run, keep_of, Writing, writing, keep_written}
use Rattle.keep.proofs.Calls.{eight_room}
use Rattle.keep.proofs.Kept.{kept_whole}
use Rattle.keep.proofs.Ends.{ends}
use Rattle.keep_compare.specs.Compare.{keep_compared}
use Rattle.keep_compare.proofs.Openings.{file_refused, shape_refused, fresh_refused_lem, fresh_opened}
use Rattle.keep_again.specs.Demand.{file_of, GivesKept, KeptAgain}
use Rattle.keep_again.proofs.Steps.{Wrote, answered_wrote, no_file, run_gives, difference_kept}

-- a pull that gives what is kept, and one that is the same
gives_same : {k : Keep} {r q : Result} → GivesKept k r → SamePull r q → GivesKept k q
gives_same {k} {r} {q} g s = record {
  answer = sym (ap (λ p. p.answer) s.numbers) ∙ g.answer;
  count = sym (ap (λ p. p.byte_count) s.numbers) ∙ g.count;
  nodes = sym s.nodes ∙ g.nodes;
  blocks = sym s.blocks ∙ g.blocks;
  block = λ l. sym (s.block (subst (λ (n : ℕ). n ≤ 1) (sym g.answer) l)) ∙ g.block l;
}

-- "keep files so written": the writer answered 0
module _ (image path : List ℕ) (index : ℕ) (room : List ℕ) (wrote : (keep_written image path index room).numbers.answer ≡ 0) where
  abbrev file : List ℕ
  file = file_of (keep_written image path index room)

  abbrev done : Wrote image path index room
  done = answered_wrote image path index room wrote

  -- the image opened, to this volume
  abbrev v : Volume
  v = done.v

  pub image_opened : opened_image image ≡ Opened v
  image_opened = done.opens

  -- what was kept
  abbrev keep : Keep
  keep = keep_of (card_of image) v path index

  is_path_lem : is_path path ≡ true
  is_path_lem = done.is

  -- "Reading what was written gives it back"
  pub reads_back : read_keep file ≡ kept keep
  reads_back = ap read_keep done.file ∙ given_back keep (kept_whole image v path index (image_volume image v image_opened))

  module _ (lent : Lent) (takes : lent_in_shape (part_count path) lent ≡ true) where
    in_shape_lem : call_in_shape image path lent ≡ true
    in_shape_lem = call_in_shape_lem image path index lent (image_shaped image v image_opened) is_path_lem takes

    abbrev came : Came image path index lent
    came = record {
      v = v;
      opens = image_opened;
      shape = in_shape_lem;
      wrote = pull.call_opens image path index lent (Opened v) in_shape_lem image_opened;
    }

    -- "The writer makes the pull itself": what is kept is what the pull on that image gives
    pub keeps_the_pull : GivesKept keep (pulled image path index lent)
    keeps_the_pull = subst (GivesKept keep) (sym came.wrote) (run_gives image v path index lent)

    -- "Comparing a keep file with a new image gives what Compare gives for the image it was written from": every number, for every new
    -- image, with the lists as the pull on that image leaves them
    pub compares_as_image : (fresh : List ℕ) → keep_compared file fresh ≡ said image fresh (pulled image path index lent)
    compares_as_image fresh = go (in_shape (length fresh)) refl (opened_image fresh) refl
      where
        shaped : in_shape (length fresh) ≡ true → (in_shape (length image) && in_shape (length fresh)) ≡ true
        shaped h = rw (image_shaped image v image_opened, h)

        go : (b : Bool) → in_shape (length fresh) ≡ b → (o : Opening) → opened_image fresh ≡ o
            → keep_compared file fresh ≡ said image fresh (pulled image path index lent)
        go false h o e =
            shape_refused file fresh reads_back h
            ∙ sym (compare.shape_refused image fresh _ _ (rw (h, and-false (in_shape (length image)))))
        go true h (Refused answer) e =
            fresh_refused_lem file fresh reads_back h answer e
            ∙ sym (compare.fresh_refused_lem image fresh _ _ (shaped h) v image_opened answer e)
        go true h (Opened u) e =
            fresh_opened file fresh reads_back u e
            ∙ ap verdict (difference_kept image v path index fresh u
            ∙ sym (ap₂ (difference (bounds_of v) (bounds_of u) (view_of (card_of image) v) (view_of (card_of fresh) u)) (nodes_of_run came)
            (blocks_of_run came)))
            ∙ sym (compared_opened image fresh _ _ v u image_opened e
            ∙ lists_compared (card_of image) v (card_of fresh) u _ _ (lists_fit image path index lent came))

  -- there is memory that a pull of the path takes
  abbrev enough : Lent
  enough = lending zeros (replicate 5616 0) (replicate 7476 0)

  takes_enough : lent_in_shape (part_count path) enough ≡ true
  takes_enough =
      eight_room path enough is_path_lem (length-replicate {A = ℕ} 4096 0) (length-replicate {A = ℕ} 5616 0) (length-replicate {A = ℕ} 7476 0)

  same_pull : (fresh : List ℕ) → (keep_compared file fresh).answer ≡ 15 → (lent : Lent) → lent_in_shape (part_count path) lent ≡ true
      → GivesKept keep (pulled fresh path index lent)
  same_pull fresh e lent takes =
      let says = ap (λ (c : Compared). c.answer) (sym (compares_as_image enough takes_enough fresh)) ∙ e in
      gives_same (keeps_the_pull enough takes_enough) (whenever_same image fresh path index enough lent takes says)

  -- Demand 3 without the old image: whenever it says "same", the pull of the kept path and index on the new image gives the kept answer,
  -- byte count, lists and, with 0 and 1, bytes. Nothing is named here but the file and the new image.
  pub same_gives_kept : (k : Keep) → read_keep file ≡ kept k → (fresh : List ℕ) → (keep_compared file fresh).answer ≡ 15 → (lent : Lent)
      → lent_in_shape (part_count k.path) lent ≡ true → GivesKept k (pulled fresh k.path k.index lent)
  unfolding keep_run
  same_gives_kept k reads fresh e lent = subst Gives (is k reads) (same_pull fresh e lent)
    where
      Gives : Keep → Type 0
      Gives k = lent_in_shape (part_count k.path) lent ≡ true → GivesKept k (pulled fresh k.path k.index lent)

      is : (k : Keep) → read_keep file ≡ kept k → keep ≡ k
      is k r = let s = reads_back in cc

  -- Compared with the image it was written from, a keep file is "same".
  pub same_as_written : (keep_compared file image).answer ≡ 15
  same_as_written =
      let some = subst (λ (r : Result). 1 ≤ (nodes_left r).count) (sym (came enough takes_enough).wrote) (run_some (card_of image) v path index) in
      ap (λ (c : Compared). c.answer) (compares_as_image enough takes_enough image)
      ∙ same_itself image path index enough (some_past image path index enough some)

-- ---- what a host has in hand
nothing_same : (fresh : List ℕ) → (keep_compared [] fresh).answer ≡ 15 → ⊥
unfolding le32 le16
nothing_same fresh e =
    let n = rw (file_refused [] fresh ((refused_exactly []).1 (λ r. let size = r.measure.file_length in omega arith))) at e in
    omega arith

-- "same" is said only of a file that the writer wrote
said_wrote : (image path : List ℕ) (index : ℕ) (room fresh : List ℕ) → (keep_compared (file_of (keep_written image path index room)) fresh).answer ≡ 15
    → (keep_written image path index room).numbers.answer ≡ 0
said_wrote image path index room fresh e =
    ⊎_elim (λ a. a) (λ none. absurd (nothing_same fresh (rw none at e))) (no_file (ends image path index room))

pub again_holds : (image fresh path : List ℕ) (index : ℕ) (room : List ℕ) (lent : Lent) {w : Written} {room' : List ℕ} {c : Compared} {p : Pulled} {left : Lent}
    → writing w room' ≡ keep_written image path index room → c ≡ keep_compared (file_of (writing w room')) fresh → result_in p left ≡ pulled fresh path index
    lent
    → KeptAgain image fresh path index room room' lent left (record { kept = w; compared = c; second = p })
unfolding keep_run
again_holds image fresh path index room lent {w} {room'} {c} {p} {left} wrote compared second = record {
  wrote = wrote;
  compared = compared;
  second = second;
  same = λ takes e.
      let says : (keep_compared (file_of (keep_written image path index room)) fresh).answer ≡ 15 =
      ap (λ (w : Writing). (keep_compared (file_of w) fresh).answer) (sym wrote) ∙ ap (λ (c : Compared). c.answer) (sym compared) ∙ e in
      let zero = said_wrote image path index room fresh says in (
        keep image path index room zero,
        ap (λ (w : Writing). read_keep (file_of w)) wrote ∙ reads_back image path index room zero,
        refl,
        refl,
        subst (GivesKept _) (sym second) (same_pull image path index room zero fresh says lent takes),
      );
}

-- A block that was asked for came: the reader as it is then is a step on.
use Prim.Native.Nat.{ℕ, ◌≤◌}
use native.Mathlib.Omega.{arith}
use mathlib.Core.Path.{◌≡◌, refl, sym, ap, ◌∙◌, subst}
use mathlib.Core.Bool.{Bool, true, false, and-false, or-true}
use mathlib.Core.List.{List}
use mathlib.Core.Logic.{◌⊎◌, ⊎_elim}
use lib.ListN.{length, take}
use lib.Dec.{eqb, ltb}
use borrow.Author.Tests.{le-ltb, eqb-false}
use Rattle.std.specs.Prelude.{Option, Some, None}
use Rattle.field.specs.Choice.{choose}
use Rattle.field.proofs.Choosing.{clash, needed, needed_le}
use Rattle.list.specs.Lists.{Rising, numbers}
use Rattle.list.proofs.Rises.{rising_insert}
use Rattle.list.proofs.Entries.{length_numbers}
use Rattle.compare.specs.Lists.{is_rising}
use Rattle.compare.proofs.Shapes.{test_rising}
use Rattle.walk.specs.Walk.{Seen}
use Rattle.asking.specs.Pull.{fed_with}
use Rattle.asking.specs.Table.{journal_in}
use Rattle.asking.proofs.Driving.{goes_on_lem}
use Rattle.ask_open.specs.declared.Keep.TheVariants as k
use Rattle.ask_open.specs.Came.{first_after, second_after}
use Rattle.reader_state.specs.declared.At.{At}
use Rattle.reader_state.specs.declared.Decision.{Decision}
use Rattle.reader_state.specs.Resume.{Memory, block_came, ending_by, resume_by}
use Rattle.ask_node.specs.Fetch.{looked_up}
use Rattle.reader_state.specs.Decision.{refuses_at, read_then, noted, memory_after}
use Rattle.reader_state.specs.Fits.{fits, WalkIn, StateIn, FitsBy, Quiet, Walks, Decided}
use Rattle.reader.specs.declared.Reader.{Reader}
use Rattle.reader.specs.Reading.{memory_in, seen_by, resume, with_number, sound_by, stepped, refusal_on, GoesBy, Stepped}
use Rattle.reader.proofs.Starting.{none_rise}
use Rattle.reader.proofs.GivenStates.{asked_left}
use Rattle.reader.proofs.Stepping.{refusal_stepped}

-- ---- what the test says
module _ (at : At) (m : Memory) (nodes blocks : List ℕ) (sound : sound_by at m nodes blocks ≡ true) where
  pub sound_fits : fits at m ≡ true
  unfolding sound_by
  sound_fits = needed (λ e. rw (e, and-false) refl) sound

  pub sound_room : (at.node_count ≤ 1404) × (at.block_count ≤ 1869)
  unfolding sound_by
  sound_room = (needed_le (λ e. rw e refl) sound, needed_le (λ e. rw (e, and-false) refl) sound)

  pub sound_nodes : Rising (numbers nodes 0 at.node_count)
  unfolding sound_by
  sound_nodes =
      let l = numbers nodes 0 at.node_count in
      test_rising l (needed {t = is_rising l} (λ e. rw (e, and-false) refl) sound)

  pub sound_blocks : Rising (numbers blocks 0 at.block_count)
  unfolding sound_by
  sound_blocks =
      let l = numbers blocks 0 at.block_count in
      test_rising l (needed {t = is_rising l} (λ e. rw (e, and-false) refl) sound)

-- ---- the numbers with other counts
abbrev pub with_counts : At → ℕ → ℕ → At
with_counts at n b =
    record {
      asks = at.asks;
      block = at.block;
      stage = at.stage;
      card_blocks = at.card_blocks;
      index = at.index;
      path_length = at.path_length;
      volume = at.volume;
      target = at.target;
      table_inode = at.table_inode;
      spot = at.spot;
      answer = at.answer;
      byte_count = at.byte_count;
      node_count = n;
      block_count = b;
    }

-- a list then, with the number that is put in, if one is
abbrev pub Put : Option ℕ → List ℕ → ℕ → List ℕ → ℕ → Type 0
Put number old count new n = numbers new 0 n ≡ with_number number (numbers old 0 count)

module _ (old : List ℕ) (count : ℕ) (new : List ℕ) (n : ℕ) where
  put_same : {number : Option ℕ} → number ≡ None → Put number old count new n → n ≡ count
  put_same e p =
      let same = p ∙ ap (λ (t : Option ℕ). with_number t (numbers old 0 count)) e in
      sym (length_numbers new 0 n) ∙ ap length same ∙ length_numbers old 0 count

  put_rises : (number : Option ℕ) → Rising (numbers old 0 count) → Put number old count new n → Rising (numbers new 0 n)
  put_rises (Some x) r p = subst Rising (sym p) (rising_insert x (numbers old 0 count) r)
  put_rises None r p = subst Rising (sym p) r

-- of the same list, under another count
pub put_from : (number : Option ℕ) (old : List ℕ) {count m : ℕ} (new : List ℕ) (n : ℕ) → m ≡ count → Put number old m new n → Put number old count new n
put_from number old new n f p = subst (λ (c : ℕ). Put number old c new n) f p

pub rising_from : {old kept : List ℕ} {count m : ℕ} → kept ≡ old → m ≡ count → Rising (numbers old 0 count) → Rising (numbers kept 0 m)
rising_from {old = old} {m = m} e f r = subst (λ (l : List ℕ). Rising (numbers l 0 m)) (sym e) (subst (λ (c : ℕ). Rising (numbers old 0 c)) (sym f) r)

-- what is left doesn't go by the counts
counts_free : (at : At) (m : Memory) (s : Seen) (n b : ℕ) → resume_by (with_counts at n b) m s ≡ resume_by at m s
unfolding resume_by ending_by block_came
counts_free at m s n b = refl

-- nor does where the walk is, or its answer
walks_free : (at : At) (m : Memory) (n b : ℕ) → Walks at → FitsBy (eqb at.asks 0) at m → FitsBy (eqb at.asks 0) (with_counts at n b) m
walks_free at m n b w fit = go (eqb at.asks 0) refl fit
  where
    place : (t : Bool) → WalkIn t at m → WalkIn t (with_counts at n b) m
    place true h = h
    place false h = h

    state : (t : Bool) → t ≡ false → StateIn t at m → StateIn t (with_counts at n b) m
    state true e h = absurd (let z : ◌≡◌ {A = ℕ} 0 1 = cc in omega arith)
    state false e h = (h.0, h.1, place (ltb 10 at.stage) h.2)

    go : (t : Bool) → eqb at.asks 0 ≡ t → FitsBy t at m → FitsBy t (with_counts at n b) m
    go true e h = record { bytes = h.bytes; counts = λ z. absurd (w.0 z) }
    go false e h =
        let late = le-ltb at.stage 9 (w.1 (eqb-false at.asks 0 e)) in
        record { sized = h.sized; path = h.path; state = state (ltb at.stage 9) late h.state }

-- ---- the step
module _ (r : Reader) (bytes : List ℕ) (d : Decision) (e : Decided r.at (memory_in r) bytes d) (journal nodes blocks : List ℕ) (n b : ℕ)
    (j : journal ≡ choose d.journal (journal_in d.at.volume.journal_at bytes) r.journal)
    (p : Put d.looked r.nodes r.at.node_count nodes n)
    (q : Put d.read r.blocks r.at.block_count blocks b) where
  abbrev pub advanced : Reader
  advanced =
      record {
        at = with_counts d.at n b;
        path = r.path;
        first = first_after d.keep r.first r.held bytes;
        held = second_after d.keep r.held bytes;
        journal = journal;
        nodes = nodes;
        blocks = blocks;
      }

  before : Seen
  before = seen_by r.at r.nodes r.blocks

  seen_then : seen_by (with_counts d.at n b) nodes blocks ≡ noted d before
  unfolding before
  seen_then = rw (p, q) (go d.looked d.read)
    where
      go : (looked read : Option ℕ)
          → ◌≡◌ {A = Seen} (record { nodes = with_number looked before.nodes; blocks = with_number read before.blocks })
          (read_then read (looked_up looked before))
      go (Some x) (Some y) = refl
      go (Some x) None = refl
      go None (Some y) = refl
      go None None = refl

  abbrev after : Memory
  after = memory_after d (memory_in r) bytes

  memory_then : memory_in advanced ≡ after
  memory_then = rw j

  left_then : resume advanced ≡ block_came r.at (memory_in r) before bytes
  left_then =
      counts_free d.at (memory_in advanced) (seen_by (with_counts d.at n b) nodes blocks) n b
      ∙ ap (λ (m : Memory). resume_by d.at m (seen_by (with_counts d.at n b) nodes blocks)) memory_then
      ∙ ap (resume_by d.at after) seen_then
      ∙ e.same before

  fit_then : FitsBy (eqb d.at.asks 0) (with_counts d.at n b) (memory_in advanced)
  fit_then = subst (FitsBy (eqb d.at.asks 0) (with_counts d.at n b)) (sym memory_then) (⊎_elim quiet walks e.lists)
    where
      quiet : Quiet d → FitsBy (eqb d.at.asks 0) (with_counts d.at n b) after
      quiet h =
          let ns : n ≡ d.at.node_count = put_same _ _ nodes n h.0 p ∙ sym e.counts.0 in
          let bs : b ≡ d.at.block_count = put_same _ _ blocks b h.1 q ∙ sym e.counts.1 in
          let same : with_counts d.at n b ≡ d.at = rw (ns, bs) in
          subst (λ (at : At). FitsBy (eqb d.at.asks 0) at after) (sym same) e.fit

      walks : Walks d.at → FitsBy (eqb d.at.asks 0) (with_counts d.at n b) after
      walks w = walks_free d.at after n b w e.fit

  pub advance_stepped : (r.at.asks ≡ 0 → ⊥) → sound_by r.at (memory_in r) r.nodes r.blocks ≡ true → length bytes ≡ 4096 → Stepped r bytes advanced
  unfolding stepped before
  advance_stepped more sound whole =
      let fed_to = ap (fed_with bytes) (asked_left r more) ∙ goes_on_lem bytes r.at.block _ whole in
      record {
        left = left_then ∙ sym fed_to ∙ rw (sound, or-true (eqb r.at.asks 0));
        kept = λ k. record {
          fit = fit_then;
          path = rw e.path k.path;
          form = e.form;
          nodes_rise = put_rises _ _ nodes n d.looked k.nodes_rise p;
          blocks_rise = put_rises _ _ blocks b d.read k.blocks_rise q;
        };
        path = ap (λ (len : ℕ). take len r.path) e.path;
        repeats = λ z. absurd (more z);
      }

-- ---- what a step leaves, whatever was decided
module _ (r : Reader) (bytes : List ℕ) (d : Decision) (goes : GoesBy r.at (memory_in r) r.nodes r.blocks bytes d) where
  -- so that a block is kept, and the journal, only if one came
  pub kept_whole : (d.keep ≡ k.Nothing → ⊥) → length bytes ≡ 4096
  kept_whole keeps = ⊎_elim (λ h. h.1) (λ h. absurd (keeps (ap (λ (x : Decision). x.keep) h.0))) goes

  pub journal_whole : d.journal ≡ true → (length bytes ≡ 4096) × (d.at.volume.journal_at ≤ 3584)
  journal_whole keeps =
      ⊎_elim (λ h. (h.1, h.2.journal keeps)) (λ h. absurd (clash keeps (ap (λ (x : Decision). x.journal) h.0))) goes

  abbrev GoesOn : Type 0
  GoesOn = (sound_by r.at (memory_in r) r.nodes r.blocks ≡ true) × (length bytes ≡ 4096) × Decided r.at (memory_in r) bytes d

  abbrev Refuses : Type 0
  Refuses = (d ≡ refusal_on r.at) × ((length bytes ≡ 4096 → ⊥) ⊎ (sound_by r.at (memory_in r) r.nodes r.blocks ≡ false))

  -- the lists are ready for one number more
  pub nodes_ready : (d.at.node_count ≤ 1404) × Rising (numbers r.nodes 0 d.at.node_count)
  nodes_ready = ⊎_elim sound refuses goes
    where
      sound : GoesOn → (d.at.node_count ≤ 1404) × Rising (numbers r.nodes 0 d.at.node_count)
      sound h =
          let few = (sound_room r.at (memory_in r) r.nodes r.blocks h.0).0 in
          let same = h.2.counts.0 in
          (omega arith, rising_from refl same (sound_nodes r.at (memory_in r) r.nodes r.blocks h.0))

      refuses : Refuses → (d.at.node_count ≤ 1404) × Rising (numbers r.nodes 0 d.at.node_count)
      refuses h = let none = ap (λ (x : Decision). x.at.node_count) h.0 in (omega arith, none_rise r.nodes none)

  pub blocks_ready : (d.at.block_count ≤ 1869) × Rising (numbers r.blocks 0 d.at.block_count)
  blocks_ready = ⊎_elim sound refuses goes
    where
      sound : GoesOn → (d.at.block_count ≤ 1869) × Rising (numbers r.blocks 0 d.at.block_count)
      sound h =
          let few = (sound_room r.at (memory_in r) r.nodes r.blocks h.0).1 in
          let same = h.2.counts.1 in
          (omega arith, rising_from refl same (sound_blocks r.at (memory_in r) r.nodes r.blocks h.0))

      refuses : Refuses → (d.at.block_count ≤ 1869) × Rising (numbers r.blocks 0 d.at.block_count)
      refuses h = let none = ap (λ (x : Decision). x.at.block_count) h.0 in (omega arith, none_rise r.blocks none)

  module _ (first block journal nodes blocks : List ℕ) (n b : ℕ)
      (f : first ≡ first_after d.keep r.first r.held bytes)
      (h : block ≡ second_after d.keep r.held bytes)
      (j : journal ≡ choose d.journal (journal_in d.at.volume.journal_at bytes) r.journal)
      (p : Put d.looked r.nodes d.at.node_count nodes n)
      (q : Put d.read r.blocks d.at.block_count blocks b) where
    abbrev left : List ℕ → List ℕ → Reader
    left x y = record { at = with_counts d.at n b; path = r.path; first = x; held = y; journal = journal; nodes = nodes; blocks = blocks }

    pub step_stepped : (r.at.asks ≡ 0 → ⊥) → Stepped r bytes (left first block)
    step_stepped more = ⊎_elim sound refuses goes
      where
        sound : GoesOn → Stepped r bytes (left first block)
        sound g =
            let e = g.2 in
            let u = put_from d.looked r.nodes nodes n e.counts.0 p in
            let v = put_from d.read r.blocks blocks b e.counts.1 q in
            let whole = advance_stepped r bytes d e journal nodes blocks n b j u v more g.0 g.1 in
            subst (λ (a : List ℕ). Stepped r bytes (left a block)) (sym f)
            (subst (λ (a : List ℕ). Stepped r bytes (left (first_after d.keep r.first r.held bytes) a)) (sym h) whole)

        refuses : Refuses → Stepped r bytes (left first block)
        refuses g =
            let at = ap (λ (x : Decision). x.at) g.0 in
            let ns : n ≡ 0 = put_same _ _ nodes n (ap (λ (x : Decision). x.looked) g.0) p ∙ ap (λ (a : At). a.node_count) at in
            let bs : b ≡ 0 = put_same _ _ blocks b (ap (λ (x : Decision). x.read) g.0) q ∙ ap (λ (a : At). a.block_count) at in
            let numbers : with_counts d.at n b ≡ refuses_at r.at 4 = ap (λ (a : At). with_counts a n b) at ∙ rw (ns, bs) in
            refusal_stepped r bytes (left first block) numbers refl more g.1

-- The turns of the loop that fills a buffer with blocks of a regular file: its invariant, and one more block behind those that stand.
use Prim.Native.Nat.{ℕ, ◌+◌, ◌*◌, ◌≤◌, ◌<◌}
use native.Mathlib.Omega.{arith}
use mathlib.Core.Path.{◌≡◌, refl, sym, ap, subst, ◌∙◌}
use mathlib.Core.List.{List, [], ◌∷◌, ◌++◌, append-nil, append_assoc}
use lib.ListN.{length, take, drop, length-append, length-drop}
use lib.Seq.{drop-drop, take-append_seam, drop-append-add}
use Rattle.walk.specs.Walk.{Outcome, ok, stop, Lists, Walked, Fits}
use Rattle.walk.specs.Lent.{view_in}
use Rattle.node.specs.declared.file.File.{File}
use Rattle.node.specs.declared.Leaf.{Leaf}
use Rattle.node.specs.Leaf.{Keeps}
use Rattle.pull.specs.Walk.{Block, inode_file_walk}
use Rattle.pull.specs.Pull.{content_bytes}
use Rattle.file_run.specs.declared.BlockBuffer.{BlockBuffer}
use Rattle.file_run.specs.Standing.{last_count, bytes_standing, FilledAs}
use Rattle.file_run.specs.Walks.{file_blocks_walk, put_at, NoneStand}
use Rattle.file_run.proofs.Filling.{Filling, filling_start, filling_fits, filling_stop, filling_next, filling_end}

-- ---- one more block
pub last_behind : (bs : List Block) (b : Block) → last_count (bs ++ (b ∷ [])) ≡ b.count
last_behind [] b = refl
last_behind (c ∷ []) b = refl
last_behind (c ∷ d ∷ bs) b = last_behind (d ∷ bs) b

bytes_behind : (bs : List Block) (b : Block) → bytes_standing (bs ++ (b ∷ [])) ≡ bytes_standing bs ++ content_bytes b.count b.content
unfolding bytes_standing
bytes_behind [] b = append-nil _
bytes_behind (c ∷ bs) b =
    ap (λ (l : List ℕ). content_bytes c.count c.content ++ l) (bytes_behind bs b)
    ∙ sym (append_assoc (content_bytes c.count c.content) (bytes_standing bs) _)

-- B is the front of `new`, `old` the rest of it; C is put behind B
module _ (B C old new new' : List ℕ) (k : ℕ) (sized : length B ≡ 4096 * k) (wrote : new ≡ B ++ drop (4096 * k) old)
    (put : new' ≡ put_at (4096 * k) C new) where
  front : take (4096 * k) new ≡ B
  front =
      ap (take (4096 * k)) wrote
      ∙ ap (λ (i : ℕ). take i (B ++ drop (4096 * k) old)) (sym sized)
      ∙ take-append_seam B (drop (4096 * k) old)

  tail : drop (4096 * k + 4096) new ≡ drop (4096 * (k + 1)) old
  tail =
      let next : 4096 * k + 4096 ≡ 4096 * (k + 1) = omega arith in
      ap (drop (4096 * k + 4096)) wrote
      ∙ ap (λ (i : ℕ). drop (i + 4096) (B ++ drop (4096 * k) old)) (sym sized)
      ∙ drop-append-add B (drop (4096 * k) old) 4096
      ∙ drop-drop 4096 (4096 * k) old
      ∙ ap (λ (i : ℕ). drop i old) next

  put_behind : new' ≡ (B ++ C) ++ drop (4096 * (k + 1)) old
  put_behind =
      let is : new' ≡ B ++ (C ++ drop (4096 * (k + 1)) old) = put ∙ rw (front, tail) in
      is ∙ sym (append_assoc B C (drop (4096 * (k + 1)) old))

  -- a buffer that keeps its length has room for a whole block only
  put_sized : length new' ≡ length old → 4096 * (k + 1) ≤ length old → length (B ++ C) ≡ 4096 * (k + 1)
  put_sized same room =
      let l = ap length put_behind ∙ length-append (B ++ C) (drop (4096 * (k + 1)) old) in
      let r = length-drop (4096 * (k + 1)) old in
      omega arith

-- ---- the invariant: k blocks stand in the buffer, and `leaf` is kept for the next index
pub record Turn (file : File) (n index : ℕ) (old : List ℕ) (s : Lists) (leaf : Leaf) (k : ℕ) (buffer : BlockBuffer) (t : Lists) : Type 0 where
  pub stood : List Block
  pub filling : Filling (view_in file.card) (inode_file_walk file) n index s k stood t
  pub keeps : Keeps file (index + k) leaf t
  pub near : index + k < 4294967296
  pub count_is : buffer.count ≡ k
  pub last_is : buffer.last ≡ last_count stood
  pub same : length buffer.bytes.now ≡ length old
  pub wrote : buffer.bytes.now ≡ bytes_standing stood ++ drop (4096 * k) old
  pub sized : length (bytes_standing stood) ≡ 4096 * k

module _ {file : File} {n index : ℕ} where
  pub turn_start : {leaf : Leaf} {buffer : BlockBuffer} {s : Lists} → Keeps file index leaf s → index < 4294967296 → NoneStand buffer
      → Turn file n index buffer.bytes.now s leaf 0 buffer s
  unfolding bytes_standing
  turn_start {leaf = leaf} {s = s} keeps near empty =
      let start : index ≡ index + 0 = omega arith in
      record {
        stood = [];
        filling = filling_start _ n index;
        keeps = subst (λ (j : ℕ). Keeps file j leaf s) start keeps;
        near = omega arith;
        count_is = empty.none;
        last_is = empty.no_last;
        same = refl;
        wrote = refl;
        sized = refl;
      }

  module _ {old : List ℕ} {s : Lists} {leaf : Leaf} {k : ℕ} {buffer : BlockBuffer} {t : Lists} (go : Turn file n index old s leaf k buffer t) where
    stands : buffer.bytes.now ≡ bytes_standing go.stood ++ drop (4096 * length go.stood) old
    stands = go.wrote ∙ ap (λ (i : ℕ). bytes_standing go.stood ++ drop (4096 * i) old) (sym go.filling.many)

    pub turn_end : n ≤ k → FilledAs (view_in file.card) (file_blocks_walk file n index) s 0 buffer.count buffer.last t old buffer.bytes.now
    turn_end h = record {
      stood = go.stood;
      walked = filling_end go.filling h;
      many = go.filling.many ∙ sym go.count_is;
      last = go.last_is;
      wrote = stands;
    }

    module _ (h : k < n) where
      pub turn_fits : Fits (view_in file.card) (file_blocks_walk file n index) s → Fits (view_in file.card) (inode_file_walk file (index + k)) t
      turn_fits fits = filling_fits go.filling h fits

      module _ {x : Outcome Block} {u : Lists} (step : Walked (view_in file.card) (inode_file_walk file (index + k)) t x u) where
        pub turn_stop : {answer : ℕ} → x ≡ stop answer
            → FilledAs (view_in file.card) (file_blocks_walk file n index) s answer buffer.count buffer.last u old buffer.bytes.now
        turn_stop e = record {
          stood = go.stood;
          walked = filling_stop go.filling h step e;
          many = go.filling.many ∙ sym go.count_is;
          last = go.last_is;
          wrote = stands;
        }

        pub turn_next : {b : Block} {leaf' : Leaf} {buffer' : BlockBuffer} → x ≡ ok b → index + k < 2147483648 → Keeps file (index + k + 1) leaf' u
            → 4096 * n ≤ length old → length buffer'.bytes.now ≡ length buffer.bytes.now → buffer'.count ≡ buffer.count + 1 → buffer'.last ≡ b.count
            → buffer'.bytes.now ≡ put_at (4096 * buffer.count) (content_bytes b.count b.content) buffer.bytes.now
            → Turn file n index old s leaf' (k + 1) buffer' u
        turn_next {b = b} {leaf' = leaf'} {buffer' = buffer'} e near keeps room z c l w =
            let new = buffer.bytes.now in
            let new' = buffer'.bytes.now in
            let is = go.count_is in
            let next : index + k + 1 ≡ index + (k + 1) = omega arith in
            let B = bytes_standing go.stood in
            let C = content_bytes b.count b.content in
            let put : new' ≡ put_at (4096 * k) C new = w ∙ ap (λ (i : ℕ). put_at (4096 * i) C new) is in
            let more = bytes_behind go.stood b in
            let sized = put_sized B C old new new' k go.sized go.wrote put (z ∙ go.same) (omega arith) in
            record {
              stood = go.stood ++ (b ∷ []);
              filling = filling_next go.filling h step e;
              keeps = subst (λ (j : ℕ). Keeps file j leaf' u) next keeps;
              near = omega arith;
              count_is = omega arith;
              last_is = l ∙ sym (last_behind go.stood b);
              same = z ∙ go.same;
              wrote = put_behind B C old new new' k go.sized go.wrote put ∙ ap (λ (l : List ℕ). l ++ drop (4096 * (k + 1)) old) (sym more);
              sized = ap length more ∙ sized;
            }

-- A walk once, and unless it stopped a run behind it, each done by a function.
use Prim.Native.Nat.{ℕ, zero, suc, ◌+◌, ◌≤◌}
use native.Mathlib.Omega.{arith}
use mathlib.Core.Path.{◌≡◌, refl, sym, ap}
use mathlib.Core.Bool.{false}
use mathlib.Core.List.{List, []}
use Rattle.inode.specs.declared.Inode.{Inode}
use Rattle.inode.specs.Inode.{inode_of, is_regular}
use Rattle.walk.specs.Walk.{View, Walk, done, Outcome, ok, stop, bind, Lists, Walked, Fits}
use Rattle.walk.proofs.Reached.{Reached, reached_start, reached_to, reached_bind, reached_done, reached_all}
use Rattle.walk.proofs.Fits.{fits_at}
use Rattle.node.specs.Node.{Bounds}
use Rattle.pull.specs.Walk.{Block}
use Rattle.pull.proofs.Cases.{file_other}
use Rattle.file_run.specs.Standing.{Standing, standing, after_one, many_walk, unless_stopped, bytes_standing, FilledAs}
use Rattle.file_run.specs.Walks.{blocks_walk}

-- a walk that came to an answer with no block standing leaves the buffer
pub none_stands : {v : View} {w : Walk Standing} {s t : Lists} {answer count last : ℕ} {bytes : List ℕ} → count ≡ 0 → last ≡ 0
    → Walked v w s (standing answer []) t → FilledAs v w s answer count last t bytes bytes
unfolding bytes_standing
none_stands c l left = record { stood = []; walked = left; many = sym c; last = l; wrote = refl }

module _ {A : Type 0} {v : View} {p : Walk (Outcome A)} {s t : Lists} {x : Outcome A} (f : A → Walk Standing) (first : Walked v p s x t) where
  -- the first stopped
  pub unless_stop : {answer count last : ℕ} {bytes : List ℕ} → count ≡ 0 → last ≡ 0 → x ≡ stop answer
      → FilledAs v (bind p (unless_stopped f)) s answer count last t bytes bytes
  unless_stop c l e = none_stands c l (reached_done (reached_to (reached_bind (unless_stopped f) (reached_start _ _ _) first) (ap (unless_stopped f) e)))

  -- it came to a value, so the run goes on
  behind : {a : A} → x ≡ ok a → Reached v (bind p (unless_stopped f)) s (f a) t
  behind e = reached_to (reached_bind (unless_stopped f) (reached_start _ _ _) first) (ap (unless_stopped f) e)

  pub unless_fits : {a : A} → x ≡ ok a → Fits v (bind p (unless_stopped f)) s → Fits v (f a) t
  unless_fits e fits = fits_at fits (behind e)

  pub unless_filled : {a : A} {u : Lists} {answer count bytes : ℕ} {old new : List ℕ} → x ≡ ok a → FilledAs v (f a) t answer count bytes u old new
      → FilledAs v (bind p (unless_stopped f)) s answer count bytes u old new
  unless_filled e filled = record {
    stood = filled.stood;
    walked = reached_all (behind e) filled.walked;
    many = filled.many;
    last = filled.last;
    wrote = filled.wrote;
  }

-- 12: the first block of an inode that is no regular file's ends the run
pub other_kind : (m : Bounds) (ino : ℕ) (inode : List ℕ) {i : Inode} → i ≡ inode_of inode → is_regular i ≡ false → (n index : ℕ) → 1 ≤ n
    → blocks_walk m ino inode n index ≡ done (standing 12 [])
unfolding many_walk bind
other_kind m ino inode read other zero index some = absurd (omega arith)
other_kind m ino inode read other (suc n) index some =
    ap (λ (w : Walk (Outcome Block)). bind w (after_one (blocks_walk m ino inode n (index + 1)))) (file_other m index ino inode read other)

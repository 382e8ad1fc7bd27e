-- `find_from_inode` meets its contract: each return is a case of `at_directory`.
use native.Mathlib.Omega.{arith}
use mathlib.Core.Path.{◌≡◌, sym, ◌∙◌}
use mathlib.Core.Bool.{true}
use Rattle.field.proofs.Blocks.{length_of_block}
use Rattle.checkpoint.specs.OpenImage.{card_in}
use Rattle.inode.specs.Inode.{inode_of, is_directory}
use Rattle.inode.proofs.DirectoryLevel.{few_levels, has_table, one_level}
use Rattle.walk.specs.Lent.{view_in, lent}
use Rattle.walk.proofs.Reached.{Reached, reached_start, reached_to, reached_all, reached_done}
use Rattle.walk.proofs.Fits.{fits_at}
use Rattle.node.specs.Node.{bounds_of}
use Rattle.dentry.specs.Slot.{wanted}
use Rattle.directory.specs.Find.{directory, find_walk}
use Rattle.path_lookup.specs.Lookup.{at_directory}
use Rattle.path_lookup.proofs.Cases.{directory_other, directory_empty, directory_search}
use Rattle.path_lookup.proofs.find_from_inode.Goals as goal
use Rattle.path_lookup.proofs.find_from_inode.Goals.{After-hash-hash, After-inode_of-i, Else-not-is_directory}

-- ---- what is known there
read_of : (k : After-inode_of-i) → k.inode_of-i.result ≡ inode_of ((card_in k.args.card).block k.args.at)
read_of k = rw k.block_at.ensures at k.inode_of-i.ensures

is_directory_lem : (k : Else-not-is_directory) → is_directory k.inode_of-i.result ≡ true
is_directory_lem k = sym k.is_directory.ensures ∙ k.if-not-is_directory.false

-- the search is left of the walk, and nothing is listed yet
to_search : (k : After-hash-hash) → let a = k.args in
    Reached (view_in a.card) (at_directory (bounds_of a.card.volume) a.name.now a.ino ((card_in a.card).block a.at)) (lent a.seen.now)
    (find_walk
    (directory (bounds_of a.card.volume) a.ino ((card_in a.card).block a.at) k.addresses_in.result k.has_inline_dentry.result k.dir_level_in.result)
    (wanted k.hash-hash.result a.name.now) k.levels_in.result)
    (lent a.seen.now)
to_search k =
    let read : k.inode_of-i.result ≡ inode_of ((card_in k.args.card).block k.args.at) = rw k.block_at.ensures at k.inode_of-i.ensures in
    let is : is_directory k.inode_of-i.result ≡ true = sym k.is_directory.ensures ∙ k.if-not-is_directory.false in
    reached_to (reached_start _ _ _)
    (directory_search _ _ _ _ read _ _ _ is k.if-i-eq0.false k.addresses_in.ensures.0 k.hash-hash.ensures k.has_inline_dentry.ensures _ _
    k.dir_level_in.ensures k.levels_in.ensures)

pub inode_of-i-requires : goal.inode_of-i-requires
inode_of-i-requires c = length_of_block _ _ c.requires.at_bound c.block_at.ensures

pub returns-then-not-is_directory-clause-walked : goal.returns-then-not-is_directory-clause-walked
returns-then-not-is_directory-clause-walked c =
    let other = sym c.is_directory.ensures ∙ c.if-not-is_directory.true in
    let read = read_of (goal.at.returns-then-not-is_directory-clause-walked c).After-inode_of-i in
    reached_done (reached_to (reached_start _ _ _) (directory_other _ _ _ _ read other))

pub returns-then-i-eq0-clause-walked : goal.returns-then-i-eq0-clause-walked
returns-then-i-eq0-clause-walked c =
    let k = (goal.at.returns-then-i-eq0-clause-walked c).Else-not-is_directory in
    let read = read_of (goal.at.returns-then-i-eq0-clause-walked c).After-inode_of-i in
    reached_done (reached_to (reached_start _ _ _) (directory_empty _ _ _ _ read (is_directory_lem k) c.if-i-eq0.true))

-- an inline directory is one level
pub invariant_of-directory : goal.invariant_of-directory
invariant_of-directory c =
    let is = is_directory_lem (goal.at.invariant_of-directory c).Else-not-is_directory in
    let levels = few_levels _ is in
    let table = has_table _ is in
    let depth = c.levels_in.ensures in
    let level = c.dir_level_in.ensures in
    record {
      levels_in = (omega arith, omega arith);
      inline_in = λ inline. let own = one_level _ (sym c.has_inline_dentry.ensures ∙ inline) in (level ∙ own.0, depth ∙ own.1);
    }

pub find-requires : goal.find-requires
find-requires c = fits_at c.requires.fits (to_search (goal.at.find-requires c).After-hash-hash)

pub returns-clause-walked : goal.returns-clause-walked
returns-clause-walked c = reached_all (to_search (goal.at.returns-clause-walked c).After-hash-hash) c.find.ensures.walked

-- The report as the code makes it, segment by segment, and what stands when all are through.
use mathlib.Core.Path.{◌≡◌, refl, sym, ap, ◌∙◌}
use mathlib.Core.List.{List}
use mathlib.Core.Bool.{true, false}
use mathlib.Core.Logic.{⊎_elim}
use Prim.Native.Nat.{ℕ, ◌+◌, ◌*◌, ◌≤◌, ◌<◌}
use native.Mathlib.Omega.{arith}
use borrow.Author.Tests.{eq-eqb, ne_eqb}
use lib.ListN.{length, get_or}
use Rattle.field.specs.Number.{put32_at}
use Rattle.field.specs.Card.{Card}
use Rattle.field.proofs.Choosing.{either}
use Rattle.checkpoint.specs.declared.Volume.{Volume}
use Rattle.list.specs.Lists.{numbers, Grown}
use Rattle.list.proofs.Entries.{length_numbers, put_front, put_grown, grown_on, grown_same}
use Rattle.list.proofs.Written.{over_written}
use Rattle.sit.specs.Entry.{valid_count, map_ones}
use Rattle.sit.specs.Table.{sit_entry}
use Rattle.segment_report.specs.declared.Segments.{Segments}
use Rattle.segment_report.specs.Off.{is_off, segments_off, ones_in_all}
use Rattle.segment_report.specs.Report.{Reported, reported, with_segment, off_on, report_of}
use Rattle.segment_report.proofs.Listing.{listed_next, passed_next, summed_next, off_most, ones_in_all_most}

-- the two ways of a segment, with the numbers that the code reads
module _ (entry : List ℕ) (segment : ℕ) (t : Segments) (list : List ℕ) {ones : ℕ} (o : ones ≡ map_ones entry) where
  pub in_order : valid_count entry ≡ ones
      → with_segment entry segment (reported t list)
      ≡ reported (record { answer = t.answer; count = t.count; valid_blocks = t.valid_blocks + ones }) list
  unfolding with_segment is_off
  in_order e = rw (eq-eqb _ _ (e ∙ o), o)

  pub off : (valid_count entry ≡ ones → ⊥)
      → with_segment entry segment (reported t list)
      ≡ reported (record { answer = t.answer; count = t.count + 1; valid_blocks = t.valid_blocks + ones }) (put32_at list (4 * t.count) segment)
  unfolding with_segment is_off
  off n = rw (ne_eqb _ _ (λ e. n (e ∙ sym o)), o)

-- The report of the first n segments, by their entries, into a list that was lent as d.
pub record Tallied (entry : ℕ → List ℕ) (d : List ℕ) (n : ℕ) (r : Reported) : Type 0 where
  pub answer : r.numbers.answer ≡ 0
  pub listed : numbers r.list 0 r.numbers.count ≡ segments_off entry n
  pub grown : Grown d 0 r.list r.numbers.count
  pub blocks : r.numbers.valid_blocks ≡ ones_in_all entry n

module _ (entry : ℕ → List ℕ) where
  module _ {d : List ℕ} {n : ℕ} {r : Reported} (t : Tallied entry d n r) where
    pub count_is : r.numbers.count ≡ length (segments_off entry n)
    count_is = sym (length_numbers r.list 0 r.numbers.count) ∙ ap length t.listed

    pub tallied_most : (r.numbers.count ≤ n) × (r.numbers.valid_blocks ≤ 512 * n)
    tallied_most = (omega (arith, count_is, off_most entry n), omega (arith, t.blocks, ones_in_all_most entry n))

    pub tallied_next : 4 * (n + 1) ≤ length d → Tallied entry d (n + 1) (with_segment (entry n) n r)
    unfolding with_segment
    tallied_next h =
        let most = tallied_most.0 in
        let size = t.grown.size in
        let count = r.numbers.count in
        let summed : r.numbers.valid_blocks + map_ones (entry n) ≡ ones_in_all entry (n + 1) = rw (summed_next entry n, t.blocks) in
        ⊎_elim (λ (p : is_off (entry n) ≡ true).
        rw p
        (record {
          answer = t.answer;
          listed = put_front r.list count n (omega arith) ∙ rw t.listed (sym (listed_next entry n p));
          grown = grown_on t.grown (put_grown r.list count n);
          blocks = summed;
        }))
        (λ (p : is_off (entry n) ≡ false).
        rw p (record { answer = t.answer; listed = t.listed ∙ sym (passed_next entry n p); grown = t.grown; blocks = summed }))
        (either (is_off (entry n)))

pub tallied_start : (entry : ℕ → List ℕ) (d : List ℕ) → Tallied entry d 0 (reported (record { answer = 0; count = 0; valid_blocks = 0 }) d)
unfolding numbers segments_off ones_in_all
tallied_start entry d = record { answer = refl; listed = refl; grown = grown_same d 0; blocks = refl }

-- all main segments are through
pub tallied_all : (card : Card) (v : Volume) {d : List ℕ} {r : Reported} → Tallied (sit_entry card v) d v.areas.main_segments r
    → ((k : ℕ) → get_or r.list k 0 < 256) → 4 * v.areas.main_segments ≤ length d → r ≡ report_of card v d
unfolding report_of off_on
tallied_all card v {d} {r} t bytes room =
    let most = (tallied_most _ t).0 in
    let size = t.grown.size in
    let written = over_written r.list d r.numbers.count t.listed t.grown.rest bytes (omega arith) in
    λ i. record {
      numbers = record { answer = t.answer i; count = count_is _ t i; valid_blocks = t.blocks i };
      list = written i;
    }

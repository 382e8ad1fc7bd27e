-- Which pack is chosen, in the order in which the code tests: the pack that wins by its version first, so that usually one
-- pack's checksums are computed and not two. And what a chosen pack is: one of the two that passes.
use Rattle.std.proofs.Common.{◌≡◌, ℕ, ◌≤◌, Bool, true, false, ◌&&◌, sym, refl, ◌∙◌, ⊎_elim, arith}
use Rattle.field.specs.Card.{Card}
use Rattle.field.specs.Choice.{choose}
use Rattle.field.proofs.Choosing.{either}
use Rattle.std.specs.Prelude.{Option, Some, None}
use Rattle.checkpoint.specs.Checkpoint.{header_of}
use Rattle.checkpoint.specs.Pack.{pack_passes, newer, second_pack, chosen}

-- of a, if p, and b, if q, where b wins over a if `wins`: the winner can be tried first
winner_first : {A : Type 0} (p q wins : Bool) (a b none : A)
    → choose p (choose (q && wins) b a) (choose q b none)
    ≡ choose wins (choose q b (choose p a none)) (choose p a (choose q b none))
winner_first true true true a b none = refl
winner_first true true false a b none = refl
winner_first true false true a b none = refl
winner_first true false false a b none = refl
winner_first false true true a b none = refl
winner_first false true false a b none = refl
winner_first false false true a b none = refl
winner_first false false false a b none = refl

-- the first of two packs that passes
abbrev pub first_passing : Card → ℕ → ℕ → Option ℕ
first_passing card one other =
    choose (pack_passes card one) (Some one) (choose (pack_passes card other) (Some other) None)

passing_of_two : (card : Card) (one other most start : ℕ) → one ≤ most → other ≤ most → first_passing card one other ≡ Some start
    → (pack_passes card start ≡ true) × (start ≤ most)
passing_of_two card one other most start l m h =
    ⊎_elim (λ p. let e = rw p at h in let s : start ≡ one = cc in (rw s p, omega arith))
    (λ p.
    let rest = rw p at h in
    ⊎_elim (λ q. let e = rw q at rest in let s : start ≡ other = cc in (rw s q, omega arith))
    (λ q. let e = rw q at rest in let n : ◌≡◌ {A = ℕ} 0 1 = cc in absurd (omega arith))
    (either (pack_passes card other)))
    (either (pack_passes card one))

module _ (card : Card) (address : ℕ) where
  pub chosen_in_order : chosen card address
      ≡ choose (newer (header_of card address) (header_of card (second_pack address)))
      (first_passing card (second_pack address) address)
      (first_passing card address (second_pack address))
  unfolding chosen
  chosen_in_order =
      winner_first (pack_passes card address) (pack_passes card (second_pack address))
      (newer (header_of card address) (header_of card (second_pack address)))
      (Some address)
      (Some (second_pack address))
      None

  pub chosen_passes : (start : ℕ) → chosen card address ≡ Some start → (pack_passes card start ≡ true) × (start ≤ second_pack address)
  chosen_passes start h =
      let inOrder = sym chosen_in_order ∙ h in
      ⊎_elim (λ w. passing_of_two card (second_pack address) address (second_pack address) start (omega arith) (omega arith) (rw w at inOrder))
      (λ w. passing_of_two card address (second_pack address) (second_pack address) start (omega arith) (omega arith) (rw w at inOrder))
      (either (newer (header_of card address) (header_of card (second_pack address))))

  -- a pack that passes and wins by its version is chosen, whatever the other holds: the first wins unless the second is newer
  pub chosen_second : pack_passes card (second_pack address) ≡ true → newer (header_of card address) (header_of card (second_pack address)) ≡ true
      → chosen card address ≡ Some (second_pack address)
  chosen_second p wins = rw (chosen_in_order, wins, p)

  pub chosen_first : pack_passes card address ≡ true → newer (header_of card address) (header_of card (second_pack address)) ≡ false
      → chosen card address ≡ Some address
  chosen_first p stays = rw (chosen_in_order, stays, p)

use Rattle.checkpoint.proofs.first_passing.Goals as goal

pub returns-then-pack_passes : goal.returns-then-pack_passes
returns-then-pack_passes c =
    rw (← c.pack_passes.ensures, c.if-pack_passes.true)

pub returns-then-pack_passes-2 : goal.returns-then-pack_passes-2
returns-then-pack_passes-2 c =
    rw (
      ← c.pack_passes.ensures,
      c.if-pack_passes.false,
      ← c.pack_passes-2.ensures,
      c.if-pack_passes-2.true,
    )

pub returns : goal.returns
returns c =
    rw (
      ← c.pack_passes.ensures,
      c.if-pack_passes.false,
      ← c.pack_passes-2.ensures,
      c.if-pack_passes-2.false,
    )

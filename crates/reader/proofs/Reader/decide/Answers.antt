-- `decide` meets its contract: bytes of another length and a state that doesn't fit are refused, else it is decided.
use mathlib.Core.Path.{sym, ◌∙◌}
use mathlib.Core.Logic.{inl, inr}
use Rattle.reader.specs.Reading.{memory_in}
use Rattle.reader.proofs.Advancing.{sound_fits}
use Rattle.reader.proofs.Reader.decide.Goals as goal

pub returns-then-bytes-ne4096 : goal.returns-then-bytes-ne4096
returns-then-bytes-ne4096 c = inr (c.refusal.ensures, inl c.if-bytes-ne4096.true)

pub returns-then-not-is_sound : goal.returns-then-not-is_sound
returns-then-not-is_sound c =
    inr (c.refusal-then-not-is_sound.ensures, inr (sym (c.is_sound.ensures c.args.self.now.path) ∙ c.if-not-is_sound.true))

pub decide-requires : goal.decide-requires
decide-requires c =
    let r = c.args.self.now in
    let sound = sym (c.is_sound.ensures r.path) ∙ c.if-not-is_sound.false in
    (sound_fits r.at (memory_in r) r.nodes r.blocks sound, c.if-bytes-ne4096.false)

pub returns : goal.returns
returns c =
    let sound = sym (c.is_sound.ensures c.args.self.now.path) ∙ c.if-not-is_sound.false in
    inl (sound, c.if-bytes-ne4096.false, c.decide.ensures.decided)

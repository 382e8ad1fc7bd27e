-- Lists that still stand in the bytes that were lent: from step to step.
use Rattle.std.proofs.Common.{refl, ◌∙◌}
use Rattle.walk.specs.declared.SeenLists.{SeenLists}
use Rattle.walk.specs.Lent.{SameLent}

pub same_refl : (s : SeenLists) → SameLent s s
same_refl s = (refl, refl, refl, refl)

pub same_trans : (s t u : SeenLists) → SameLent s t → SameLent t u → SameLent s u
same_trans s t u h g = (g.0 ∙ h.0, g.1 ∙ h.1, g.2 ∙ h.2, g.3 ∙ h.3)

use Rattle.ts_item_forms.proofs.SoundLemmas.{item_sound}
use Rattle.ts_item_forms.proofs.forms_laws.item_page_is_sound.Goals as goal

pub returns : goal.returns
returns c = λ f front is. item_sound c.chosen_page_is_sound.ensures f front is

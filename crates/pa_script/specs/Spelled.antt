-- What the parts of a line stand for while the bytes of a write are still digits.
use Rattle.std.specs.Prelude.{Option, Some, option_map}
use Rattle.pa_object.specs.declared.script.Deed.{Deed}
use Rattle.pa_object.specs.declared.script.Deed.TheVariants as deed
use Rattle.pa_object.specs.declared.script.Item.{Item}
use Rattle.pa_script.specs.declared.item.SpelledDeed.{SpelledDeed}
use Rattle.pa_script.specs.declared.item.SpelledDeed.TheVariants.{Write, Copy}
use Rattle.pa_script.specs.declared.item.SpelledItem.{SpelledItem}
use Rattle.pa_script.specs.Items as items

abbrev pub deed_spelled : SpelledDeed → Option Deed
deed_spelled (Write at digits) = option_map (λ bytes. deed.Write at bytes) (items.bytes digits.now)
deed_spelled (Copy to from count) = Some (deed.Copy to from count)

abbrev pub item_spelled : SpelledItem → Option Item
item_spelled item = option_map (λ d. record { step = item.step; deed = d }) (deed_spelled item.deed)

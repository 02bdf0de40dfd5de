-- Annotation items by place as readings: the file opened for the place, the item whole, 7 for the element.
use Rattle.std.specs.Prelude.{ℕ, List}
use Rattle.refusal.specs.Outcome.{Outcome, ◌>>=◌}
use Rattle.header.specs.Header.{up_to_end, frame_of}
use Rattle.value_bodies.specs.Bodies.{ShownElement}
use Rattle.annotation_items.specs.Items.{Summary, item_summary, item_element}
use Rattle.value_readers.specs.Opening.{opened_within}

unfoldable pub annotation_of : List ℕ → ℕ → Outcome Summary
annotation_of f place = opened_within f place >>= λ o. item_summary (up_to_end f o.header) (frame_of o.header o.handles) place

unfoldable pub annotation_element_of : List ℕ → ℕ → ℕ → Outcome ShownElement
annotation_element_of f place k = opened_within f place >>= λ o. item_element (up_to_end f o.header) (frame_of o.header o.handles) place k

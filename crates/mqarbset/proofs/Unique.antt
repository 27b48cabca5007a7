-- Each export asks nothing of its caller, and no second reply, book or memory satisfies its promise. `Pre` and `Post` are what Rattle reads of the
-- function's own clauses, so a weakened promise fails here. Cited by no proof. Assumes nothing.
use mathlib.Core.Path.{◌≡◌, sym, ap, ◌∙◌}
use Rattle.mqarbset.proofs.mq_midamble_chip.Reads as chip
use Rattle.mqarbset.proofs.mq_midamble.Reads as midamble
use Rattle.mqarbset.proofs.book.mq_list_bytes.Reads as list
use Rattle.mqarbset.proofs.mq_refusal_text.Reads as text
use Rattle.mqarbset.proofs.pages.mq_page.Reads as page
use Rattle.mqarbset.proofs.pages.mq_read_page.Reads as read_page
use Rattle.mqarbset.proofs.book.mq_empty_book.Reads as empty
use Rattle.mqarbset.proofs.book.mq_open_value.Reads as opens
use Rattle.mqarbset.proofs.book.mq_book_value.Reads as book
use Rattle.mqarbset.proofs.book.mq_cancel_value.Reads as cancel
use Rattle.mqarbset.proofs.book.mq_close_value.Reads as close
use Rattle.mqarbset.proofs.book.mq_summary_value.Reads as summary
use Rattle.mqarbset.proofs.by_block.mq_block_start.Reads as block_start
use Rattle.mqarbset.proofs.by_block.mq_block_value.Reads as block
use Rattle.mqarbset.proofs.pairs.mq_pair.Reads as pair
use Rattle.mqarbset.proofs.pairs.mq_pairs.Reads as pairs
use Rattle.mqarbset.proofs.air.mq_hear.Reads as hear
use Rattle.mqarbset.proofs.parts.mq_parts.Reads as parts
use Rattle.mqarbset.proofs.parts.mq_at.Reads as at
use Rattle.mqarbset.proofs.parts.mq_beacon.Reads as beacon
use Rattle.mqarbset.proofs.pages.mq_indicator.Reads as indicator
use Rattle.mqarbset.proofs.pages.mq_owner.Reads as owner
use Rattle.mqarbset.proofs.version.mq_version.Reads as version
use Rattle.mqarbset.proofs.version.mq_book_bytes.Reads as book-bytes

-- a promise that is one equation leaves one reply, and one memory
once : {R M : Type 0} (o : R × M) (r r' : R) (m m' : M) → ◌≡◌ {A = R × M} (r, m) o → ◌≡◌ {A = R × M} (r', m') o → (r ≡ r') × (m ≡ m')
once {R} {M} o r r' m m' p q =
    let e = p ∙ sym q in
    (ap (λ (x : R × M). x.0) e, ap (λ (x : R × M). x.1) e)

-- ---- calls that lend no memory

pub mq_version_total : (κs : _) (a : _) → version.Pre κs a
mq_version_total κs a = tt

pub mq_version_unique : (κs : _) (a : _) (r r' : _) (s s' : _) → version.Post κs a r s → version.Post κs a r' s' → r ≡ r'
mq_version_unique κs a r r' s s' p q = p ∙ sym q

pub mq_book_bytes_total : (κs : _) (a : _) → book-bytes.Pre κs a
mq_book_bytes_total κs a = tt

pub mq_book_bytes_unique : (κs : _) (a : _) (r r' : _) (s s' : _) → book-bytes.Post κs a r s → book-bytes.Post κs a r' s' → r ≡ r'
mq_book_bytes_unique κs a r r' s s' p q = p ∙ sym q

pub mq_midamble_chip_total : (κs : _) (a : _) → chip.Pre κs a
mq_midamble_chip_total κs a = tt

pub mq_midamble_chip_unique : (κs : _) (a : _) (r r' : _) (s s' : _) → chip.Post κs a r s → chip.Post κs a r' s' → r ≡ r'
mq_midamble_chip_unique κs a r r' s s' p q = p ∙ sym q

pub mq_block_start_total : (κs : _) (a : _) → block_start.Pre κs a
mq_block_start_total κs a = tt

pub mq_block_start_unique : (κs : _) (a : _) (r r' : _) (s s' : _) → block_start.Post κs a r s → block_start.Post κs a r' s' → r ≡ r'
mq_block_start_unique κs a r r' s s' p q = p ∙ sym q

pub mq_pair_total : (κs : _) (a : _) → pair.Pre κs a
mq_pair_total κs a = tt

pub mq_pair_unique : (κs : _) (a : _) (r r' : _) (s s' : _) → pair.Post κs a r s → pair.Post κs a r' s' → r ≡ r'
mq_pair_unique κs a r r' s s' p q = p ∙ sym q

pub mq_hear_total : (κs : _) (a : _) → hear.Pre κs a
mq_hear_total κs a = tt

pub mq_hear_unique : (κs : _) (a : _) (r r' : _) (s s' : _) → hear.Post κs a r s → hear.Post κs a r' s' → r ≡ r'
mq_hear_unique κs a r r' s s' p q = p ∙ sym q

pub mq_summary_value_total : (κs : _) (a : _) → summary.Pre κs a
mq_summary_value_total κs a = tt

pub mq_summary_value_unique : (κs : _) (a : _) (r r' : _) (s s' : _) → summary.Post κs a r s → summary.Post κs a r' s' → r ≡ r'
mq_summary_value_unique κs a r r' s s' p q = p ∙ sym q

pub mq_empty_book_total : (κs : _) (a : _) → empty.Pre κs a
mq_empty_book_total κs a = tt

pub mq_empty_book_unique : (κs : _) (a : _) (r r' : _) (s s' : _) → empty.Post κs a r s → empty.Post κs a r' s' → r ≡ r'
mq_empty_book_unique κs a r r' s s' p q = p ∙ sym q

pub mq_open_value_total : (κs : _) (a : _) → opens.Pre κs a
mq_open_value_total κs a = tt

pub mq_open_value_unique : (κs : _) (a : _) (r r' : _) (s s' : _) → opens.Post κs a r s → opens.Post κs a r' s' → r ≡ r'
mq_open_value_unique κs a r r' s s' p q = p ∙ sym q

pub mq_book_value_total : (κs : _) (a : _) → book.Pre κs a
mq_book_value_total κs a = tt

pub mq_book_value_unique : (κs : _) (a : _) (r r' : _) (s s' : _) → book.Post κs a r s → book.Post κs a r' s' → r ≡ r'
mq_book_value_unique κs a r r' s s' p q = p ∙ sym q

pub mq_cancel_value_total : (κs : _) (a : _) → cancel.Pre κs a
mq_cancel_value_total κs a = tt

pub mq_cancel_value_unique : (κs : _) (a : _) (r r' : _) (s s' : _) → cancel.Post κs a r s → cancel.Post κs a r' s' → r ≡ r'
mq_cancel_value_unique κs a r r' s s' p q = p ∙ sym q

pub mq_close_value_total : (κs : _) (a : _) → close.Pre κs a
mq_close_value_total κs a = tt

pub mq_close_value_unique : (κs : _) (a : _) (r r' : _) (s s' : _) → close.Post κs a r s → close.Post κs a r' s' → r ≡ r'
mq_close_value_unique κs a r r' s s' p q = p ∙ sym q

pub mq_parts_total : (κs : _) (a : _) → parts.Pre κs a
mq_parts_total κs a = tt

pub mq_parts_unique : (κs : _) (a : _) (r r' : _) (s s' : _) → parts.Post κs a r s → parts.Post κs a r' s' → r ≡ r'
mq_parts_unique κs a r r' s s' p q = p ∙ sym q

pub mq_at_total : (κs : _) (a : _) → at.Pre κs a
mq_at_total κs a = tt

pub mq_at_unique : (κs : _) (a : _) (r r' : _) (s s' : _) → at.Post κs a r s → at.Post κs a r' s' → r ≡ r'
mq_at_unique κs a r r' s s' p q = p ∙ sym q

pub mq_beacon_total : (κs : _) (a : _) → beacon.Pre κs a
mq_beacon_total κs a = tt

pub mq_beacon_unique : (κs : _) (a : _) (r r' : _) (s s' : _) → beacon.Post κs a r s → beacon.Post κs a r' s' → r ≡ r'
mq_beacon_unique κs a r r' s s' p q = p ∙ sym q

pub mq_indicator_total : (κs : _) (a : _) → indicator.Pre κs a
mq_indicator_total κs a = tt

pub mq_indicator_unique : (κs : _) (a : _) (r r' : _) (s s' : _) → indicator.Post κs a r s → indicator.Post κs a r' s' → r ≡ r'
mq_indicator_unique κs a r r' s s' p q = p ∙ sym q

pub mq_owner_total : (κs : _) (a : _) → owner.Pre κs a
mq_owner_total κs a = tt

pub mq_owner_unique : (κs : _) (a : _) (r r' : _) (s s' : _) → owner.Post κs a r s → owner.Post κs a r' s' → r ≡ r'
mq_owner_unique κs a r r' s s' p q = p ∙ sym q

-- ---- calls that lend memory

pub mq_midamble_total : (κs : _) (a : _) → midamble.Pre κs a
mq_midamble_total κs a = tt

pub mq_midamble_unique : (κs : _) (a : _) (r r' : _) (s s' : _) → midamble.Post κs a r s → midamble.Post κs a r' s' → (r ≡ r') × (s.1.1.1.1.0.now ≡ s'.1.1.1.1.0.now)
mq_midamble_unique κs a r r' s s' p q = once _ r r' _ _ p q

pub mq_block_value_total : (κs : _) (a : _) → block.Pre κs a
mq_block_value_total κs a = tt

pub mq_block_value_unique : (κs : _) (a : _) (r r' : _) (s s' : _) → block.Post κs a r s → block.Post κs a r' s' → (r ≡ r') × (s.1.0.now ≡ s'.1.0.now)
mq_block_value_unique κs a r r' s s' p q = once _ r r' _ _ p q

pub mq_pairs_total : (κs : _) (a : _) → pairs.Pre κs a
mq_pairs_total κs a = tt

pub mq_pairs_unique : (κs : _) (a : _) (r r' : _) (s s' : _) → pairs.Post κs a r s → pairs.Post κs a r' s' → (r ≡ r') × (s.1.1.1.1.1.0.now ≡ s'.1.1.1.1.1.0.now)
mq_pairs_unique κs a r r' s s' p q = once _ r r' _ _ p q

pub mq_list_bytes_total : (κs : _) (a : _) → list.Pre κs a
mq_list_bytes_total κs a = tt

pub mq_list_bytes_unique : (κs : _) (a : _) (r r' : _) (s s' : _) → list.Post κs a r s → list.Post κs a r' s' → (r ≡ r') × (s.1.1.0.now ≡ s'.1.1.0.now)
mq_list_bytes_unique κs a r r' s s' p q = once _ r r' _ _ p q

pub mq_page_total : (κs : _) (a : _) → page.Pre κs a
mq_page_total κs a = tt

pub mq_page_unique : (κs : _) (a : _) (r r' : _) (s s' : _) → page.Post κs a r s → page.Post κs a r' s' → (r ≡ r') × (s.1.1.1.0.now ≡ s'.1.1.1.0.now)
mq_page_unique κs a r r' s s' p q = once _ r r' _ _ p q

pub mq_read_page_total : (κs : _) (a : _) → read_page.Pre κs a
mq_read_page_total κs a = tt

pub mq_read_page_unique : (κs : _) (a : _) (r r' : _) (s s' : _) → read_page.Post κs a r s → read_page.Post κs a r' s' → (r ≡ r') × (s.1.1.1.0.now ≡ s'.1.1.1.0.now)
mq_read_page_unique κs a r r' s s' p q = once _ r r' _ _ p q

pub mq_refusal_text_total : (κs : _) (a : _) → text.Pre κs a
mq_refusal_text_total κs a = tt

pub mq_refusal_text_unique : (κs : _) (a : _) (r r' : _) (s s' : _) → text.Post κs a r s → text.Post κs a r' s' → (r ≡ r') × (s.1.0.now ≡ s'.1.0.now)
mq_refusal_text_unique κs a r r' s s' p q = once _ r r' _ _ p q

use Rattle.std.proofs.Common.{refl}
use Rattle.hm_header.proofs.PageLemmas.{put_signature, put_state, put_undo, put_append}
use Rattle.hm_header.proofs.body.fields_page.Goals as goal

-- each number is put where the zeros of the page begin
pub returns : goal.returns
returns c =
    let h = c.args.h.now in
    let signed = put_signature c.zero-page.result c.put_u64.new.page c.from_le_bytes.result
    c.zero-page.ensures.value c.put_u64.ensures.change (rw c.from_le_bytes.ensures refl) in
    let state =
    put_state h c.put_u64.new.page c.put_u32.new.page c.put_u32-2.new.page c.put_u64-2.new.page
    c.put_u64-3.new.page c.put_u64-4.new.page signed c.put_u32.ensures.change c.put_u32-2.ensures.change
    c.put_u64-2.ensures.change c.put_u64-3.ensures.change (rw (← c.raw.ensures.value)
    c.put_u64-4.ensures.change) in
    let undo =
    put_undo h c.put_u64-4.new.page c.put_u32-3.new.page c.put_u32-4.new.page c.put_u32-5.new.page state
    c.put_u32-3.ensures.change c.put_u32-4.ensures.change c.put_u32-5.ensures.change in
    put_append h c.put_u32-5.new.page c.put_u32-6.new.page c.put_u32-7.new.page c.put_u32-8.new.page
    c.put_u32-9.new.page undo c.put_u32-6.ensures.change c.put_u32-7.ensures.change c.put_u32-8.ensures.change
    c.put_u32-9.ensures.change

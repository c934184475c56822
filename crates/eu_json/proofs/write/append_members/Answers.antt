use Rattle.std.proofs.Common.{take, decimal, [], ◌∷◌, ◌++◌, codes, get_or, refl, ap, ◌∙◌, append_assoc}
use Rattle.json.specs.Print.{quoted}
use Rattle.serde_json.specs.Data.{string}
use Rattle.serde_json.specs.Written.{compact_text}
use Rattle.eu_base.specs.declared.names.Key.{Key}
use Rattle.eu_base.specs.declared.statuses.Status.{Status}
use Rattle.eu_base.specs.Values.{status_name}
use Rattle.eu_text.specs.Text.{behind}
use Rattle.eu_text.proofs.PieceLemmas.{piece_of, step, then_value}
use Rattle.eu_json.specs.Tree.{lease_tree}
use Rattle.eu_json.proofs.TextLemmas.{lead_app, lead_instanceId, lead_lastDirtyTimestamp, lead_leaseInfo, lead_overriddenStatus, lead_status, own1, own2, own3, own4, own5, written}
use Rattle.eu_json.proofs.write.append_members.Goals as goal

pub append_text-requires : goal.append_text-requires
append_text-requires c =
    let p = c.requires in
    let cuts = c.args.pieces.cuts in
    let bytes = c.args.pieces.bytes.now in
    let m0 = p.0 in
    let l0 = p.2.is in
    let s0 = piece_of (codes "app") m0 bytes cuts.app l0 (ap (λ ns. get_or ns 0 cuts.app) p.2.at) in
    s0.fits

pub append_text-requires-2 : goal.append_text-requires-2
append_text-requires-2 c =
    let p = c.requires in
    let cuts = c.args.pieces.cuts in
    let bytes = c.args.pieces.bytes.now in
    let m0 = p.0 in
    let l0 = p.2.is in
    let s0 = piece_of (codes "app") m0 bytes cuts.app l0 (ap (λ ns. get_or ns 0 cuts.app) p.2.at) in
    let m1 = behind (codes "app") m0 in
    let l1 = c.in_ok-left.ensures.left ∙ s0.left in
    let s1 = piece_of (codes "instanceId") m1 c.in_ok-left.left.now cuts.instance_id l1 (ap (λ ns. get_or ns 1 cuts.app) p.2.at) in
    s1.fits

pub append_text-requires-3 : goal.append_text-requires-3
append_text-requires-3 c =
    let p = c.requires in
    let cuts = c.args.pieces.cuts in
    let bytes = c.args.pieces.bytes.now in
    let m0 = p.0 in
    let l0 = p.2.is in
    let s0 = piece_of (codes "app") m0 bytes cuts.app l0 (ap (λ ns. get_or ns 0 cuts.app) p.2.at) in
    let m1 = behind (codes "app") m0 in
    let l1 = c.in_ok-left.ensures.left ∙ s0.left in
    let s1 = piece_of (codes "instanceId") m1 c.in_ok-left.left.now cuts.instance_id l1 (ap (λ ns. get_or ns 1 cuts.app) p.2.at) in
    let m2 = behind (codes "instanceId") m1 in
    let l2 = c.in_ok-left-2.ensures.left ∙ s1.left in
    let s2 = piece_of (codes "lastDirtyTimestamp") m2 c.in_ok-left-2.left.now cuts.last_dirty l2 (ap (λ ns. get_or ns 2 cuts.app) p.2.at) in
    s2.fits

pub append_piece-requires : goal.append_piece-requires
append_piece-requires c =
    let p = c.requires in
    let cuts = c.args.pieces.cuts in
    let bytes = c.args.pieces.bytes.now in
    let m0 = p.0 in
    let l0 = p.2.is in
    let s0 = piece_of (codes "app") m0 bytes cuts.app l0 (ap (λ ns. get_or ns 0 cuts.app) p.2.at) in
    let m1 = behind (codes "app") m0 in
    let l1 = c.in_ok-left.ensures.left ∙ s0.left in
    let s1 = piece_of (codes "instanceId") m1 c.in_ok-left.left.now cuts.instance_id l1 (ap (λ ns. get_or ns 1 cuts.app) p.2.at) in
    let m2 = behind (codes "instanceId") m1 in
    let l2 = c.in_ok-left-2.ensures.left ∙ s1.left in
    let s2 = piece_of (codes "lastDirtyTimestamp") m2 c.in_ok-left-2.left.now cuts.last_dirty l2 (ap (λ ns. get_or ns 2 cuts.app) p.2.at) in
    let m3 = behind (codes "lastDirtyTimestamp") m2 in
    let l3 = c.in_ok-left-3.ensures.left ∙ s2.left in
    let s3 = piece_of (codes "leaseInfo") m3 c.in_ok-left-3.left.now cuts.lease l3 (ap (λ ns. get_or ns 3 cuts.app) p.2.at) in
    s3.fits

pub append_piece-requires-2 : goal.append_piece-requires-2
append_piece-requires-2 c =
    let p = c.requires in
    let cuts = c.args.pieces.cuts in
    let bytes = c.args.pieces.bytes.now in
    let m0 = p.0 in
    let l0 = p.2.is in
    let s0 = piece_of (codes "app") m0 bytes cuts.app l0 (ap (λ ns. get_or ns 0 cuts.app) p.2.at) in
    let m1 = behind (codes "app") m0 in
    let l1 = c.in_ok-left.ensures.left ∙ s0.left in
    let s1 = piece_of (codes "instanceId") m1 c.in_ok-left.left.now cuts.instance_id l1 (ap (λ ns. get_or ns 1 cuts.app) p.2.at) in
    let m2 = behind (codes "instanceId") m1 in
    let l2 = c.in_ok-left-2.ensures.left ∙ s1.left in
    let s2 = piece_of (codes "lastDirtyTimestamp") m2 c.in_ok-left-2.left.now cuts.last_dirty l2 (ap (λ ns. get_or ns 2 cuts.app) p.2.at) in
    let m3 = behind (codes "lastDirtyTimestamp") m2 in
    let l3 = c.in_ok-left-3.ensures.left ∙ s2.left in
    let s3 = piece_of (codes "leaseInfo") m3 c.in_ok-left-3.left.now cuts.lease l3 (ap (λ ns. get_or ns 3 cuts.app) p.2.at) in
    let m4 = behind (codes "leaseInfo") m3 in
    let l4 = c.in_ok-left-4.ensures.left ∙ s3.left in
    let s4 = piece_of (codes "overriddenStatus") m4 c.in_ok-left-4.left.now cuts.overridden l4 (ap (λ ns. get_or ns 4 cuts.app) p.2.at) in
    s4.fits

pub append_piece-requires-3 : goal.append_piece-requires-3
append_piece-requires-3 c =
    let p = c.requires in
    let cuts = c.args.pieces.cuts in
    let bytes = c.args.pieces.bytes.now in
    let m0 = p.0 in
    let l0 = p.2.is in
    let s0 = piece_of (codes "app") m0 bytes cuts.app l0 (ap (λ ns. get_or ns 0 cuts.app) p.2.at) in
    let m1 = behind (codes "app") m0 in
    let l1 = c.in_ok-left.ensures.left ∙ s0.left in
    let s1 = piece_of (codes "instanceId") m1 c.in_ok-left.left.now cuts.instance_id l1 (ap (λ ns. get_or ns 1 cuts.app) p.2.at) in
    let m2 = behind (codes "instanceId") m1 in
    let l2 = c.in_ok-left-2.ensures.left ∙ s1.left in
    let s2 = piece_of (codes "lastDirtyTimestamp") m2 c.in_ok-left-2.left.now cuts.last_dirty l2 (ap (λ ns. get_or ns 2 cuts.app) p.2.at) in
    let m3 = behind (codes "lastDirtyTimestamp") m2 in
    let l3 = c.in_ok-left-3.ensures.left ∙ s2.left in
    let s3 = piece_of (codes "leaseInfo") m3 c.in_ok-left-3.left.now cuts.lease l3 (ap (λ ns. get_or ns 3 cuts.app) p.2.at) in
    let m4 = behind (codes "leaseInfo") m3 in
    let l4 = c.in_ok-left-4.ensures.left ∙ s3.left in
    let s4 = piece_of (codes "overriddenStatus") m4 c.in_ok-left-4.left.now cuts.overridden l4 (ap (λ ns. get_or ns 4 cuts.app) p.2.at) in
    let m5 = behind (codes "overriddenStatus") m4 in
    let l5 = c.in_ok-left-5.ensures.left ∙ s4.left in
    let s5 = piece_of (codes "status") m5 c.in_ok-left-5.left.now cuts.status l5 (ap (λ ns. get_or ns 5 cuts.app) p.2.at) in
    s5.fits

pub returns : goal.returns
returns c =
    let p = c.requires in
    let cuts = c.args.pieces.cuts in
    let bytes = c.args.pieces.bytes.now in
    let m0 = p.0 in
    let l0 = p.2.is in
    let s0 = piece_of (codes "app") m0 bytes cuts.app l0 (ap (λ ns. get_or ns 0 cuts.app) p.2.at) in
    let m1 = behind (codes "app") m0 in
    let l1 = c.in_ok-left.ensures.left ∙ s0.left in
    let s1 = piece_of (codes "instanceId") m1 c.in_ok-left.left.now cuts.instance_id l1 (ap (λ ns. get_or ns 1 cuts.app) p.2.at) in
    let m2 = behind (codes "instanceId") m1 in
    let l2 = c.in_ok-left-2.ensures.left ∙ s1.left in
    let s2 = piece_of (codes "lastDirtyTimestamp") m2 c.in_ok-left-2.left.now cuts.last_dirty l2 (ap (λ ns. get_or ns 2 cuts.app) p.2.at) in
    let m3 = behind (codes "lastDirtyTimestamp") m2 in
    let l3 = c.in_ok-left-3.ensures.left ∙ s2.left in
    let s3 = piece_of (codes "leaseInfo") m3 c.in_ok-left-3.left.now cuts.lease l3 (ap (λ ns. get_or ns 3 cuts.app) p.2.at) in
    let m4 = behind (codes "leaseInfo") m3 in
    let l4 = c.in_ok-left-4.ensures.left ∙ s3.left in
    let s4 = piece_of (codes "overriddenStatus") m4 c.in_ok-left-4.left.now cuts.overridden l4 (ap (λ ns. get_or ns 4 cuts.app) p.2.at) in
    let m5 = behind (codes "overriddenStatus") m4 in
    let l5 = c.in_ok-left-5.ensures.left ∙ s4.left in
    let s5 = piece_of (codes "status") m5 c.in_ok-left-5.left.now cuts.status l5 (ap (λ ns. get_or ns 5 cuts.app) p.2.at) in
    let m6 = behind (codes "status") m5 in
    let l6 = c.in_ok-left-6.ensures.left ∙ s5.left in
    let i = c.args.instance.now in
    let times = c.args.times in
    let o0 = c.args.out.now.items in
    let o1 = c.append_text.new.out.items in
    let o2 = c.append_text-2.new.out.items in
    let o3 = c.append_text-3.new.out.items in
    let o4 = c.append_lease.new.out.items in
    let o5 = c.extend_from_slice.new.self.items in
    let o6 = c.extend_from_slice-2.new.self.items in
    let e = 125 ∷ [] in
    let w1 = step (codes "app") (codes ",\"app\":") (quoted c.as_str-app.result.now) (string i.key.app) (own1 i times) m0 _ o0 o1 _ lead_app (ap quoted (c.as_str-app.ensures.value ∙ ap (λ (k : Key). k.app) c.key.ensures)) s0 c.in_ok-left.ensures.out e in
    let w2 = step (codes "instanceId") (codes ",\"instanceId\":") (quoted c.as_str-id.result.now) (string i.key.id) (own2 i times) m1 _ o1 o2 _ lead_instanceId (ap quoted (c.as_str-id.ensures.value ∙ ap (λ (k : Key). k.id) c.key-2.ensures)) s1 c.in_ok-left-2.ensures.out e in
    let w3 = step (codes "lastDirtyTimestamp") (codes ",\"lastDirtyTimestamp\":") (quoted c.format-stamp.result.now) (string (decimal i.last_dirty)) (own3 i times) m2 _ o2 o3 _ lead_lastDirtyTimestamp (ap quoted c.format-stamp.ensures.text ∙ ap (λ n. quoted (decimal n)) (c.value.ensures.value ∙ c.last_dirty.ensures)) s2 c.in_ok-left-3.ensures.out e in
    let v4 = then_value o3 _ o4 (take cuts.lease.before c.in_ok-left-3.left.now) (codes ",\"leaseInfo\":") (compact_text (lease_tree i times)) c.in_ok-left-4.ensures.out c.in_ok-append_lease.ensures in
    let w4 = step (codes "leaseInfo") (codes ",\"leaseInfo\":") (compact_text (lease_tree i times)) (lease_tree i times) (own4 i) m3 _ o3 o4 _ lead_leaseInfo refl s3 v4 e in
    let v5 = then_value o4 _ o5 (take cuts.overridden.before c.in_ok-left-4.left.now) (codes ",\"overriddenStatus\":") c.as_bytes.result.now c.in_ok-left-5.ensures.out c.in_ok-extend_from_slice.ensures.items in
    let w5 = step (codes "overriddenStatus") (codes ",\"overriddenStatus\":") c.as_bytes.result.now (string (status_name i.overridden)) (own5 i) m4 _ o4 o5 _ lead_overriddenStatus (c.as_bytes.ensures.value ∙ c.quoted_status.ensures ∙ ap (λ (s : Status). quoted (status_name s)) c.overridden.ensures) s4 v5 e in
    let v6 = then_value o5 _ o6 (take cuts.status.before c.in_ok-left-5.left.now) (codes ",\"status\":") c.as_bytes-2.result.now c.in_ok-left-6.ensures.out c.in_ok-extend_from_slice-2.ensures.items in
    let w6 = step (codes "status") (codes ",\"status\":") c.as_bytes-2.result.now (string (status_name i.status)) [] m5 _ o5 o6 _ lead_status (c.as_bytes-2.ensures.value ∙ c.quoted_status-2.ensures ∙ ap (λ (s : Status). quoted (status_name s)) c.status.ensures) s5 v6 e in
    let end = c.in_ok-extend_from_slice-4.ensures.items ∙ ap (λ o. o ++ e) (c.in_ok-extend_from_slice-3.ensures.items ∙ ap (λ s. o6 ++ s) l6) ∙ append_assoc o6 _ e in
    written i times m0 o0 _ p.1 (end ∙ w6 ∙ w5 ∙ w4 ∙ w3 ∙ w2 ∙ w1)

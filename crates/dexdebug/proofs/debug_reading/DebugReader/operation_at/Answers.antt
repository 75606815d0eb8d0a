use Rattle.dexdebug.proofs.Common.{◌≡◌, ℕ, ◌+◌, Some, refl, sym, subst, arith, AdvancePc, StartLocal, StartLocalExtended, EndLocal, RestartLocal, SetFile, IndexAt}
use Rattle.dexdebug.proofs.DebugRead.{local_parts, some_parts, only_advance_pc, only_start_local, only_start_local_extended, only_end_local, only_restart_local, only_prologue_end, only_epilogue_begin, only_set_file}
use Rattle.dexdebug.proofs.debug_reading.DebugReader.operation_at.Goals as goal

pub returns-in_err-register_num-in-3-clause-only : goal.returns-in_err-register_num-in-3-clause-only
returns-in_err-register_num-in-3-clause-only c = λ op n h.
    only_start_local c.args.self.now.counts c.args.opcode c.args.self.now.bytes.now c.args.at op n h c.from_residual-in_err-register_num-in-3.result c.in-3.is
    (λ register_num name_idx type_idx k at. let e = c.in_err-register_num-in-3.ensures.only register_num name_idx type_idx k at in absurd cc)

pub returns-in_ok-register_num-in-3-clause-only : goal.returns-in_ok-register_num-in-3-clause-only
returns-in_ok-register_num-in-3-clause-only c = λ op n h.
    let read = c.in_ok-register_num-in-3 in
    only_start_local c.args.self.now.counts c.args.opcode c.args.self.now.bytes.now c.args.at op n h (Some (StartLocal read.register_num read.name_idx read.type_idx, read.len)) c.in-3.is (λ register_num name_idx type_idx k at.
    let e = local_parts (read.register_num, read.name_idx, read.type_idx, read.len) (register_num, name_idx, type_idx, k) (read.ensures.only register_num name_idx type_idx k at) in
    λ j. Some (StartLocal (e.0 j) (e.1 j) (e.2 j), e.3 j))

pub returns-in_err-register_num-in-4-clause-only : goal.returns-in_err-register_num-in-4-clause-only
returns-in_err-register_num-in-4-clause-only c = λ op n h.
    only_start_local_extended c.args.self.now.counts c.args.opcode c.args.self.now.bytes.now c.args.at op n h c.from_residual-in_err-register_num-in-4.result c.in-4.is
    (λ register_num name_idx type_idx sig_idx k at. let e = c.in_err-register_num-in-4.ensures.only register_num name_idx type_idx at.local_size at.at_local in absurd cc)

pub returns-in_err-sig_idx-in-4-clause-only : goal.returns-in_err-sig_idx-in-4-clause-only
returns-in_err-sig_idx-in-4-clause-only c = λ op n h.
    let read = c.in_ok-register_num-in-4 in
    only_start_local_extended c.args.self.now.counts c.args.opcode c.args.self.now.bytes.now c.args.at op n h c.from_residual-in_err-sig_idx-in-4.result c.in-4.is (λ register_num name_idx type_idx sig_idx k at.
    let l = local_parts (read.register_num, read.name_idx, read.type_idx, read.local_len) (register_num, name_idx, type_idx, at.local_size) (read.ensures.only register_num name_idx type_idx at.local_size at.at_local) in
    let e = c.in_err-sig_idx-in-4.ensures.only sig_idx at.signature_size (subst (λ (i : ℕ). IndexAt c.args.self.now.counts.texts c.args.self.now.bytes.now (c.args.at + i) sig_idx at.signature_size) (sym l.3) at.at_signature) in
    absurd cc)

pub returns-in_ok-sig_idx-in-4-clause-only : goal.returns-in_ok-sig_idx-in-4-clause-only
returns-in_ok-sig_idx-in-4-clause-only c = λ op n h.
    let read = c.in_ok-register_num-in-4 in
    let sig = c.in_ok-sig_idx-in-4 in
    only_start_local_extended c.args.self.now.counts c.args.opcode c.args.self.now.bytes.now c.args.at op n h (Some (StartLocalExtended read.register_num read.name_idx read.type_idx sig.sig_idx, read.local_len + sig.sig_len)) c.in-4.is (λ register_num name_idx type_idx sig_idx k at.
    let l = local_parts (read.register_num, read.name_idx, read.type_idx, read.local_len) (register_num, name_idx, type_idx, at.local_size) (read.ensures.only register_num name_idx type_idx at.local_size at.at_local) in
    let s = some_parts (sig.sig_idx, sig.sig_len) (sig_idx, at.signature_size) (sig.ensures.only sig_idx at.signature_size (subst (λ (i : ℕ). IndexAt c.args.self.now.counts.texts c.args.self.now.bytes.now (c.args.at + i) sig_idx at.signature_size) (sym l.3) at.at_signature)) in
    let size : read.local_len + sig.sig_len ≡ k = omega (arith, l.3, s.1, at.size) in
    λ j. Some (StartLocalExtended (l.0 j) (l.1 j) (l.2 j) (s.0 j), size j))

pub returns-in_err-name_idx-in-9-clause-only : goal.returns-in_err-name_idx-in-9-clause-only
returns-in_err-name_idx-in-9-clause-only c = λ op n h.
    only_set_file c.args.self.now.counts c.args.opcode c.args.self.now.bytes.now c.args.at op n h c.from_residual-in_err-name_idx-in-9.result c.in-9.is (λ i k at. let e = c.in_err-name_idx-in-9.ensures.only i k at in absurd cc)

pub returns-in_ok-name_idx-in-9-clause-only : goal.returns-in_ok-name_idx-in-9-clause-only
returns-in_ok-name_idx-in-9-clause-only c = λ op n h.
    let read = c.in_ok-name_idx-in-9 in
    only_set_file c.args.self.now.counts c.args.opcode c.args.self.now.bytes.now c.args.at op n h (Some (SetFile read.name_idx, read.len)) c.in-9.is
    (λ i k at. let e = some_parts (read.name_idx, read.len) (i, k) (read.ensures.only i k at) in λ j. Some (SetFile (e.0 j), e.1 j))

pub returns-in_err-addr_diff-in-1-clause-only : goal.returns-in_err-addr_diff-in-1-clause-only
returns-in_err-addr_diff-in-1-clause-only c = λ op n h.
    only_advance_pc c.args.self.now.counts c.args.opcode c.args.self.now.bytes.now c.args.at op n h c.from_residual.result c.in-1.is (λ value k at. let e = c.in_err-addr_diff-in-1.ensures.only value k at in absurd cc)

pub returns-in_ok-addr_diff-in-1 : goal.returns-in_ok-addr_diff-in-1
returns-in_ok-addr_diff-in-1 c =
    let read = c.in_ok-addr_diff-in-1 in
    record {
      found = (c.in-1.is, read.ensures.found);
      within = read.ensures.within;
      only = λ op n h.
          only_advance_pc c.args.self.now.counts c.args.opcode c.args.self.now.bytes.now c.args.at op n h (Some (AdvancePc read.addr_diff, read.len)) c.in-1.is
          (λ value k at. let e = some_parts (read.addr_diff, read.len) (value, k) (read.ensures.only value k at) in λ j. Some (AdvancePc (e.0 j), e.1 j));
    }

pub returns-in_err-register_num-in-5-clause-only : goal.returns-in_err-register_num-in-5-clause-only
returns-in_err-register_num-in-5-clause-only c = λ op n h.
    only_end_local c.args.self.now.counts c.args.opcode c.args.self.now.bytes.now c.args.at op n h c.from_residual-in_err-register_num-in-5.result c.in-5.is (λ value k at. let e = c.in_err-register_num-in-5.ensures.only value k at in absurd cc)

pub returns-in_ok-register_num-in-5 : goal.returns-in_ok-register_num-in-5
returns-in_ok-register_num-in-5 c =
    let read = c.in_ok-register_num-in-5 in
    record {
      found = (c.in-5.is, read.ensures.found);
      within = read.ensures.within;
      only = λ op n h.
          only_end_local c.args.self.now.counts c.args.opcode c.args.self.now.bytes.now c.args.at op n h (Some (EndLocal read.register_num, read.len)) c.in-5.is
          (λ value k at. let e = some_parts (read.register_num, read.len) (value, k) (read.ensures.only value k at) in λ j. Some (EndLocal (e.0 j), e.1 j));
    }

pub returns-in_err-register_num-in-6-clause-only : goal.returns-in_err-register_num-in-6-clause-only
returns-in_err-register_num-in-6-clause-only c = λ op n h.
    only_restart_local c.args.self.now.counts c.args.opcode c.args.self.now.bytes.now c.args.at op n h c.from_residual-in_err-register_num-in-6.result c.in-6.is (λ value k at. let e = c.in_err-register_num-in-6.ensures.only value k at in absurd cc)

pub returns-in_ok-register_num-in-6 : goal.returns-in_ok-register_num-in-6
returns-in_ok-register_num-in-6 c =
    let read = c.in_ok-register_num-in-6 in
    record {
      found = (c.in-6.is, read.ensures.found);
      within = read.ensures.within;
      only = λ op n h.
          only_restart_local c.args.self.now.counts c.args.opcode c.args.self.now.bytes.now c.args.at op n h (Some (RestartLocal read.register_num, read.len)) c.in-6.is
          (λ value k at. let e = some_parts (read.register_num, read.len) (value, k) (read.ensures.only value k at) in λ j. Some (RestartLocal (e.0 j), e.1 j));
    }

pub returns-in-7-clause-only : goal.returns-in-7-clause-only
returns-in-7-clause-only c = λ op n h. only_prologue_end c.args.self.now.counts c.args.opcode c.args.self.now.bytes.now c.args.at op n h _ c.in-7.is refl

pub returns-in-8-clause-only : goal.returns-in-8-clause-only
returns-in-8-clause-only c = λ op n h. only_epilogue_begin c.args.self.now.counts c.args.opcode c.args.self.now.bytes.now c.args.at op n h _ c.in-8.is refl

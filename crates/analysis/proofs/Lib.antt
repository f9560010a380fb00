-- Laws of what is held on the way, in the order of the work: layout and codes, the set of a call, the table, masks and rows, the plan, the
-- answer. The files behind them that speak of loops and turns (from CollectLaws on) are the mathematics of this crate's own code.
mod LayoutLaws
mod CodedLaws
mod GatheredLaws
mod PlaceLaws
mod TableWords
mod FillingLaws
mod CollectedLaws
mod MaskLaws
mod MaskBuffers
mod PlanLaws
mod PreparedLaws
mod CollectLaws
mod GatherLaws
mod KeyWordLaws
mod OpeningKeyLaws
mod CallLaws
mod RowLoops
mod PlanLoops
mod PrepareLaws

mod BagCounts
mod BagWaits
